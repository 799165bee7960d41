-- A ceiling and its depth below hiLimit are each other's inverse, by the sign of the ceiling.
-- Assumes nothing.
use Prim.Native.Nat.{ℕ, suc, ◌+◌, ◌-◌, ◌≤◌, ◌<◌}
use mathlib.Core.Bool.{true}
use mathlib.Core.Path.{◌≡◌, ap, ◌∙◌}
use native.Mathlib.Omega.{arith}
use borrow.Author.Tests.{lt-ltb, le-ltb, leb-true}
use lib.IntN.{ℤ, pos, negsuc, sub_ℕ}
use lib.Signed.{mag, le_z}
use Rattle.decide.proofs.Cases.{by_cases, le_or}
use Rattle.plain.specs.Ceiling.{depth_below}

-- ---- a difference, by its sign

pub sub_pos : (a b : ℕ) → b ≤ a → sub_ℕ a b ≡ pos (a - b)
sub_pos a b h = simp (le-ltb _ _ h)

pub sub_neg : (a b : ℕ) → a < b → sub_ℕ a b ≡ negsuc (b - suc a)
sub_neg a b h = simp (lt-ltb _ _ h)

-- ---- there and back

pub depth_ceiling : (hi d : ℕ) → depth_below hi (sub_ℕ hi d) ≡ d
unfolding depth_below
depth_ceiling hi d =
    by_cases (le_or d hi)
    (λ h. ap (depth_below hi) (sub_pos hi d h) ∙ omega arith)
    (λ h. ap (depth_below hi) (sub_neg hi d h) ∙ omega arith)

pub ceiling_depth : (hi : ℕ) (z : ℤ) → le_z z (pos hi) ≡ true → sub_ℕ hi (depth_below hi z) ≡ z
unfolding depth_below
ceiling_depth hi (pos n) h =
    let l = leb-true n hi h in
    sub_pos hi (hi - n) (omega arith) ∙ ap pos (omega arith)
ceiling_depth hi (negsuc n) h = sub_neg hi (hi + n + 1) (omega arith) ∙ ap negsuc (omega arith)

-- a ceiling at such a depth fits 8 bytes
pub ceiling_fits : (hi d : ℕ) → hi < 9223372036854775808 → d ≤ 9223372036854775807 → mag (sub_ℕ hi d) < 9223372036854775808
ceiling_fits hi d f g =
    by_cases (le_or d hi) (λ h. rw (sub_pos hi d h) (omega arith)) (λ h. rw (sub_neg hi d h) (omega arith))
