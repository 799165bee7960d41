-- Digits are below 16, so that two of them are a byte.
-- Assumes nothing.
use Prim.Native.Nat.{ℕ, zero, suc, ◌+◌, ◌*◌, ◌%◌, ◌≤◌, ◌<◌}
use mathlib.Core.List.{List, [], ◌∷◌}
use mathlib.Core.Path.{◌≡◌, refl, ap}
use native.Mathlib.Omega.{arith}
use lib.Dec.{eqb}
use lib.ListN.{length}
use Rattle.decide.proofs.Cases.{of_each}
use Rattle.wire.specs.Wire.{Bytes}
use Rattle.hex_text.specs.declared.Glyph.{Glyph}
use Rattle.hex_text.specs.declared.Glyph.TheVariants.{Digit, Blank, Other}
use Rattle.hex_text.specs.Hex.{is_within, is_blank, glyph_of, onto, digits_of, pairs, even}
use Rattle.hex_text.specs.Fed.{byte_of}
use Rattle.hex_text.specs.Decoded.{code_of}
use Rattle.hex_text.proofs.Rows.{within_bounds}

-- a digit's value
abbrev Small : Glyph → Type 0
Small (Digit d) = d < 16
Small Blank = Unit {0}
Small Other = Unit {0}

small : (c : ℕ) → Small (glyph_of c)
unfolding glyph_of
small c =
    of_each Small (is_within 48 57 c) _ _ (λ e. omega (arith, within_bounds 48 57 c e))
    (λ _. of_each Small (is_within 65 70 c) _ _ (λ e. omega (arith, within_bounds 65 70 c e))
    (λ _. of_each Small (is_within 97 102 c) _ _ (λ e. omega (arith, within_bounds 97 102 c e))
    (λ _. of_each Small (is_blank c) _ _ (λ _. tt) (λ _. tt))))

pub digit_small : (c d : ℕ) → glyph_of c ≡ Digit d → d < 16
digit_small c d g = rw g at (small c)

-- a character by its code
code_at : (g : Glyph) → Small g →
    (code_of g < 16 → g ≡ Digit (code_of g)) × ((code_of g < 17 → 16 ≤ code_of g → g ≡ Blank) × (17 ≤ code_of g → g ≡ Other))
code_at (Digit d) s = (λ h. refl, (λ h k. absurd (omega arith), λ h. absurd (omega arith)))
code_at Blank s = (λ h. absurd (omega arith), (λ h k. refl, λ h. absurd (omega arith)))
code_at Other s = (λ h. absurd (omega arith), (λ h k. absurd (omega arith), λ h. refl))

module _ (c d : ℕ) (e : d ≡ code_of (glyph_of c)) where
  pub code_digit : d < 16 → glyph_of c ≡ Digit d
  code_digit h = rw e ((code_at (glyph_of c) (small c)).0 (rw e at h))

  pub code_blank : d < 17 → 16 ≤ d → glyph_of c ≡ Blank
  code_blank h k = (code_at (glyph_of c) (small c)).1.0 (rw e at h) (rw e at k)

  pub code_other : 17 ≤ d → glyph_of c ≡ Other
  code_other h = (code_at (glyph_of c) (small c)).1.1 (rw e at h)

-- two digits
pub byte_pair : (h l : ℕ) → h < 16 → l < 16 → byte_of h l ≡ 16 * h + l
byte_pair h l p q = omega arith

pub even_more : (h l : ℕ) (ds : List ℕ) → even (h ∷ l ∷ ds) ≡ even ds
even_more h l ds = let e : length (h ∷ l ∷ ds) % 2 ≡ length ds % 2 = omega arith in ap (λ n. eqb n 0) e

-- all digits of a text, and the bytes that they pair up to
abbrev AllSmall : List ℕ → Type 0
AllSmall [] = Unit {0}
AllSmall (d ∷ ds) = (d < 16) × AllSmall ds

onto_small : (g : Glyph) (ds : List ℕ) → Small g → AllSmall ds → AllSmall (onto g ds)
onto_small (Digit d) ds s a = (s, a)
onto_small Blank ds s a = a
onto_small Other ds s a = a

digits_small : (cs : List ℕ) → AllSmall (digits_of cs)
digits_small [] = tt
digits_small (c ∷ cs) = onto_small (glyph_of c) (digits_of cs) (small c) (digits_small cs)

pairs_bytes : (ds : List ℕ) → AllSmall ds → Bytes (pairs ds)
pairs_bytes [] a j = omega arith
pairs_bytes (d ∷ []) a j = omega arith
pairs_bytes (h ∷ l ∷ ds) a zero = omega arith
pairs_bytes (h ∷ l ∷ ds) a (suc j) = pairs_bytes ds a.1.1 j

pub text_bytes : (cs : List ℕ) → Bytes (pairs (digits_of cs))
text_bytes cs = pairs_bytes (digits_of cs) (digits_small cs)
