-- A record given as hex text: what the text comes to.
-- Assumes nothing.
use Rattle.std.specs.Prelude.{ℕ, ◌+◌, ◌*◌, ◌-◌, ◌%◌, Bool, true, false, cond, ◌&&◌, ◌||◌, List, [], ◌∷◌, ◌⊎◌, ◌≡◌, eqb, leb, length, Err}
use Rattle.decide.specs.Number.{refusal_of}
use Rattle.summary.specs.Answer.{Answer}
use Rattle.record.specs.Cause.{Cause}
use Rattle.account.specs.Account.{summarize_of}
use Rattle.hex_text.specs.declared.Glyph.{Glyph}
use Rattle.hex_text.specs.declared.Glyph.TheVariants.{Digit, Blank, Other}

-- ---- a character

abbrev pub is_within : ℕ → ℕ → ℕ → Bool
is_within first last c = leb first c && leb c last

-- Blanks and line ends: tab, line feed, carriage return, space.
abbrev pub is_blank : ℕ → Bool
is_blank c = eqb c 9 || (eqb c 10 || (eqb c 13 || eqb c 32))

-- The digits 0 to 9, A to F and a to f; blanks; all else is other text.
unfoldable pub glyph_of : ℕ → Glyph
glyph_of c =
    cond (is_within 48 57 c) (Digit (c - 48))
    (cond (is_within 65 70 c) (Digit (c - 65 + 10))
    (cond (is_within 97 102 c) (Digit (c - 97 + 10)) (cond (is_blank c) Blank Other)))

-- ---- a text

-- what is said of the characters behind, unless this one is other text
abbrev pub unless_other : Glyph → Bool → Bool
unless_other (Digit d) b = b
unless_other Blank b = b
unless_other Other b = false

-- whether no character is other text
abbrev pub all_hex : List ℕ → Bool
all_hex [] = true
all_hex (c ∷ cs) = unless_other (glyph_of c) (all_hex cs)

-- its digits' values, in order; blanks are skipped, also between the two digits of a byte
abbrev pub onto : Glyph → List ℕ → List ℕ
onto (Digit d) ds = d ∷ ds
onto Blank ds = ds
onto Other ds = ds

abbrev pub digits_of : List ℕ → List ℕ
digits_of [] = []
digits_of (c ∷ cs) = onto (glyph_of c) (digits_of cs)

-- the bytes that digits pair up to, the higher digit first
abbrev pub pairs : List ℕ → List ℕ
pairs [] = []
pairs (d ∷ []) = []
pairs (h ∷ l ∷ ds) = (16 * h + l) ∷ pairs ds

abbrev pub even : List ℕ → Bool
even ds = eqb (length ds % 2) 0

-- no character is other text, and there is no odd digit
abbrev pub is_hex : List ℕ → Bool
is_hex cs = all_hex cs && even (digits_of cs)

-- Other text or an odd digit, anywhere, is 2 before all else; otherwise the bytes are a record.
unfoldable pub text_of : List ℕ → Answer
text_of cs = cond (is_hex cs) (summarize_of (pairs (digits_of cs))) (Err (refusal_of 2))

-- what a text can be refused for: 2 where it is no hex, before all else; otherwise what its record is refused for
abbrev pub TextCause : List ℕ → ℕ → Type 0
TextCause cs n = ((is_hex cs ≡ false) × (n ≡ 2)) ⊎ ((is_hex cs ≡ true) × Cause true (pairs (digits_of cs)) n)
