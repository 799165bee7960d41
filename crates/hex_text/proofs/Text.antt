-- What a text comes to, one law for each row of the paper; and bytes written as hex are read back, in both letter cases.
-- Assumes nothing.
use Prim.Native.Nat.{ℕ, suc, ◌+◌, ◌*◌, ◌-◌, ◌/◌, ◌%◌, ◌<◌}
use mathlib.Core.Bool.{true, false, cond}
use mathlib.Core.List.{List, [], ◌∷◌, ◌++◌}
use mathlib.Core.Logic.{◌⊎◌}
use mathlib.Core.Path.{◌≡◌, refl, sym, ap, ◌∙◌}
use native.Mathlib.Omega.{arith}
use borrow.Author.Tests.{le-ltb, lt-ltb, eq-eqb, ne_eqb}
use lib.Dec.{ltb}
use lib.ListN.{length}
use Rattle.decide.proofs.Cases.{by_cases, le_or, true_or_false}
use Rattle.std.specs.Prelude.{Err}
use Rattle.decide.specs.Number.{refusal_of}
use Rattle.wire.specs.Wire.{Bytes}
use Rattle.account.specs.Account.{summarize_of}
use Rattle.hex_text.specs.declared.Glyph.{Glyph}
use Rattle.hex_text.specs.declared.Glyph.TheVariants.{Digit, Blank, Other}
use Rattle.hex_text.specs.Hex.{glyph_of, unless_other, all_hex, digits_of, pairs, text_of}
use Rattle.hex_text.proofs.Rows.{glyph_decimal, glyph_upper, glyph_lower}

-- ---- 2 before all else

unless_false : (g : Glyph) → unless_other g false ≡ false
unless_false (Digit d) = refl
unless_false Blank = refl
unless_false Other = refl

not_all_hex : (xs ys : List ℕ) (c : ℕ) → glyph_of c ≡ Other → all_hex (xs ++ (c ∷ ys)) ≡ false
not_all_hex [] ys c g = rw g
not_all_hex (x ∷ xs) ys c g = rw (not_all_hex xs ys c g) (unless_false (glyph_of x))

-- Other text, anywhere, is 2.
pub text_other : (xs ys : List ℕ) (c : ℕ) → glyph_of c ≡ Other → text_of (xs ++ (c ∷ ys)) ≡ Err (refusal_of 2)
unfolding text_of
text_other xs ys c g = rw (not_all_hex xs ys c g)

-- An odd digit is 2.
pub text_odd : (cs : List ℕ) → length (digits_of cs) % 2 ≡ 1 → text_of cs ≡ Err (refusal_of 2)
unfolding text_of
text_odd cs h =
    by_cases (true_or_false (all_hex cs)) (λ e. rw (e, ne_eqb (length (digits_of cs) % 2) 0 (λ z. omega arith))) (λ e. rw e)

-- ---- otherwise the bytes are a record

pub text_bytes_of : (cs : List ℕ) → all_hex cs ≡ true → length (digits_of cs) % 2 ≡ 0 → text_of cs ≡ summarize_of (pairs (digits_of cs))
unfolding text_of
text_bytes_of cs a e = rw (a, eq-eqb (length (digits_of cs) % 2) 0 e)

skipped : (xs ys : List ℕ) (c : ℕ) → glyph_of c ≡ Blank →
    (all_hex (xs ++ (c ∷ ys)) ≡ all_hex (xs ++ ys)) × (digits_of (xs ++ (c ∷ ys)) ≡ digits_of (xs ++ ys))
skipped [] ys c g = (rw g, rw g)
skipped (x ∷ xs) ys c g = let r = skipped xs ys c g in (rw r.0, rw r.1)

-- Blanks and line ends are skipped, also between the two digits of a byte.
pub text_blank : (xs ys : List ℕ) (c : ℕ) → glyph_of c ≡ Blank → text_of (xs ++ (c ∷ ys)) ≡ text_of (xs ++ ys)
unfolding text_of
text_blank xs ys c g = let r = skipped xs ys c g in rw (r.0, r.1)

-- ---- what is written is read back

-- the character of a digit, in the case whose letters begin at a
abbrev pub character_of : ℕ → ℕ → ℕ
character_of a d = cond (ltb d 10) (48 + d) (a + (d - 10))

-- each byte as two characters, the higher digit first
abbrev pub hex_of : ℕ → List ℕ → List ℕ
hex_of a [] = []
hex_of a (x ∷ xs) = character_of a (x / 16) ∷ character_of a (x % 16) ∷ hex_of a xs

-- A to F and a to f
module _ (a : ℕ) (letters : (a ≡ 65) ⊎ (a ≡ 97)) where
  letter_back : (d : ℕ) → d < 6 → glyph_of (a + d) ≡ Digit (d + 10)
  letter_back d h =
      by_cases letters
      (λ e. rw e (sym (glyph_upper (65 + d) (omega arith) (omega arith)) ∙ ap Digit (omega arith)))
      (λ e. rw e (sym (glyph_lower (97 + d) (omega arith) (omega arith)) ∙ ap Digit (omega arith)))

  digit_back : (d : ℕ) → d < 16 → glyph_of (character_of a d) ≡ Digit d
  digit_back d h =
      by_cases (le_or 10 d)
      (λ k. rw (le-ltb d 10 k) (letter_back (d - 10) (omega arith) ∙ ap Digit (omega arith)))
      (λ k. rw (lt-ltb d 10 k) (sym (glyph_decimal (48 + d) (omega arith) (omega arith)) ∙ ap Digit (omega arith)))

  -- no other text, an even number of digits, and the bytes again
  hex_back : (xs : List ℕ) → Bytes xs →
      (all_hex (hex_of a xs) ≡ true) × ((length (digits_of (hex_of a xs)) % 2 ≡ 0) × (pairs (digits_of (hex_of a xs)) ≡ xs))
  hex_back [] b = (refl, (refl, refl))
  hex_back (x ∷ xs) b =
      let r = hex_back xs (λ j. b (suc j)) in
      let x-small : x < 256 = b 0 in
      let h = digit_back (x / 16) (omega arith) in
      let l = digit_back (x % 16) (omega arith) in
      let n : length (x / 16 ∷ x % 16 ∷ digits_of (hex_of a xs)) % 2 ≡ 0 = omega (arith, r.1.0) in
      let y : 16 * (x / 16) + x % 16 ≡ x = omega arith in
      rw (h, l) (r.0, (n, rw (y, r.1.1)))

  -- Bytes written as hex come to what the bytes come to.
  pub text_written : (xs : List ℕ) → Bytes xs → text_of (hex_of a xs) ≡ summarize_of xs
  text_written xs b = let r = hex_back xs b in text_bytes_of (hex_of a xs) r.0 r.1.0 ∙ ap summarize_of r.1.1
