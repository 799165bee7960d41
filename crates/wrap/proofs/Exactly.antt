-- The test behind the refusal of a home side, as the plain fact that it tests, both ways.
-- Assumes nothing.
use Prim.Native.Nat.{ℕ, zero, suc, ◌<◌}
use mathlib.Core.Bool.{false}
use mathlib.Core.Logic.{◌⊎◌, inl, inr, ⊎_elim, ◌↔◌}
use mathlib.Core.Path.{◌≡◌, refl}
use native.Mathlib.Omega.{arith}
use Rattle.decide.specs.Test.{test}
use Rattle.decide.proofs.Tests.{fails, failing}
use Rattle.wrap.specs.Walking.{bad_home}

-- The home side is 1, left, or 2, right.
pub home_exactly : (home : ℕ) → (test (bad_home home) ≡ false) ↔ ((home ≡ 1) ⊎ (home ≡ 2))
home_exactly home = (
  λ e. one_or_two home (fails (bad_home home) e),
  λ h. failing (bad_home home) (λ k. ⊎_elim (λ a. ⊎_elim (λ b. omega arith) (λ b. omega arith) k) (λ a. ⊎_elim (λ b. omega arith) (λ b. omega arith) k) h),
)
  where
    one_or_two : (h : ℕ) → ((h < 1) ⊎ (2 < h) → ⊥) → (h ≡ 1) ⊎ (h ≡ 2)
    one_or_two zero f = absurd (f (inl (omega arith)))
    one_or_two (suc zero) f = inl refl
    one_or_two (suc (suc zero)) f = inr refl
    one_or_two (suc (suc (suc h))) f = absurd (f (inr (omega arith)))
