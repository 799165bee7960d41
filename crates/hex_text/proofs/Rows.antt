-- What a character does and what the end says, row by row: each by the tests that lead there, or by the place in the text.
-- Assumes nothing.
use Prim.Native.Nat.{ℕ, ◌+◌, ◌-◌, ◌≤◌, ◌<◌}
use mathlib.Core.Bool.{Bool, true, false}
use mathlib.Core.List.{List}
use mathlib.Core.Path.{◌≡◌, refl}
use native.Mathlib.Numerals.{add-one}
use native.Mathlib.Omega.{arith}
use Rattle.std.proofs.Common.{le-leb, ne_eqb}
use borrow.Author.Tests.{leb-true}
use lib.Dec.{leb}
use lib.ListN.{length, get_or, drop, drop_of_length-le}
use lib.Seq.{drop-cons}
use Rattle.decide.specs.Test.{both}
use Rattle.std.specs.Prelude.{Err}
use Rattle.decide.specs.Number.{refusal_of}
use Rattle.feed.specs.Feed as Feeding
use Rattle.hex_text.specs.declared.Glyph.TheVariants.{Digit, Blank, Other}
use Rattle.hex_text.specs.declared.Place.TheVariants.{Between, Behind, Lost}
use Rattle.hex_text.specs.declared.Hex.{Hex}
use Rattle.hex_text.specs.Hex.{is_within, glyph_of}
use Rattle.hex_text.specs.Fed.{byte_of, placed_at, read_digit, read_char, read_text, is_whole, finish_of}

-- ---- a character

pub within_bounds : (first last c : ℕ) → is_within first last c ≡ true → (first ≤ c) × (c ≤ last)
within_bounds first last c e =
    let p = both (leb first c) (leb c last) e in
    (leb-true first c p.0, leb-true c last p.1)

inside : (first last c : ℕ) → first ≤ c → c ≤ last → is_within first last c ≡ true
inside first last c f l = simp (le-leb first c f, le-leb c last l)

outside : (first last c : ℕ) → (first ≤ c → c ≤ last → ⊥) → is_within first last c ≡ false
outside first last c none = by (is_within first last c) refl
  where
    by : (b : Bool) → is_within first last c ≡ b → is_within first last c ≡ false
    by false e = e
    by true e = let p = within_bounds first last c e in absurd (none p.0 p.1)

-- no tab, line feed, carriage return or space
pub record NoBlank (c : ℕ) : Type 0 where
  pub tab : c ≡ 9 → ⊥
  pub line_feed : c ≡ 10 → ⊥
  pub return : c ≡ 13 → ⊥
  pub space : c ≡ 32 → ⊥

module _ (c : ℕ) where
  pub glyph_decimal : 48 ≤ c → c ≤ 57 → Digit (c - 48) ≡ glyph_of c
  unfolding glyph_of
  glyph_decimal f l = rw (inside 48 57 c f l)

  pub glyph_upper : 65 ≤ c → c ≤ 70 → Digit (c - 65 + 10) ≡ glyph_of c
  unfolding glyph_of
  glyph_upper f l = rw (outside 48 57 c (λ p q. omega arith), inside 65 70 c f l)

  pub glyph_lower : 97 ≤ c → c ≤ 102 → Digit (c - 97 + 10) ≡ glyph_of c
  unfolding glyph_of
  glyph_lower f l = rw (outside 48 57 c (λ p q. omega arith), outside 65 70 c (λ p q. omega arith), inside 97 102 c f l)

  pub glyph_other : (48 ≤ c → c ≤ 57 → ⊥) → (65 ≤ c → c ≤ 70 → ⊥) → (97 ≤ c → c ≤ 102 → ⊥) → NoBlank c → Other ≡ glyph_of c
  unfolding glyph_of
  glyph_other d u l b =
      rw (outside 48 57 c d, outside 65 70 c u, outside 97 102 c l)
      (simp (ne_eqb c 9 b.tab, ne_eqb c 10 b.line_feed, ne_eqb c 13 b.return, ne_eqb c 32 b.space))

-- ---- a character more

module _ (x : Hex) (d : ℕ) where
  pub digit_between : x.place ≡ Between → read_digit x d ≡ placed_at x (Behind d)
  unfolding read_digit
  digit_between p = rw p

  pub digit_behind : (h : ℕ) → x.place ≡ Behind h → read_digit x d ≡ record { feed = Feeding.fed_byte x.feed (byte_of h d); place = Between }
  unfolding read_digit
  digit_behind h p = rw p

  pub digit_lost : x.place ≡ Lost → read_digit x d ≡ x
  unfolding read_digit
  digit_lost p = rw p

module _ (x : Hex) (c : ℕ) where
  pub char_digit : (d : ℕ) → glyph_of c ≡ Digit d → read_char x c ≡ read_digit x d
  unfolding read_char
  char_digit d g = rw g

  pub char_blank : glyph_of c ≡ Blank → read_char x c ≡ x
  unfolding read_char
  char_blank g = rw g

  pub char_other : glyph_of c ≡ Other → read_char x c ≡ placed_at x Lost
  unfolding read_char
  char_other g = rw g

-- ---- characters one after the other

module _ (x : Hex) (cs : List ℕ) (i : ℕ) where
  pub text_next : i < length cs → read_text x (drop i cs) ≡ read_text (read_char x (get_or cs i 0)) (drop (i + 1) cs)
  unfolding read_text
  text_next h = rw (drop-cons cs i 0 h, add-one)

  pub text_end : length cs ≤ i → read_text x (drop i cs) ≡ x
  unfolding read_text
  text_end h = rw (drop_of_length-le cs h)

-- ---- the end

module _ (x : Hex) where
  pub finish_whole : is_whole x.place ≡ true → finish_of x ≡ Feeding.finish_of x.feed
  unfolding finish_of
  finish_whole p = rw p

  pub finish_cut : is_whole x.place ≡ false → finish_of x ≡ Err (refusal_of 2)
  unfolding finish_of
  finish_cut p = rw p
