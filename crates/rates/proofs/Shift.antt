-- Which coefficients `rates::part` divides by with a shift: the powers of two, and no others. Assumes nothing.
use mathlib.Core.Path.{◌≡◌, refl, ap, ap₂, ◌∙◌, subst}
use mathlib.Core.Logic.{◌↔◌}
use Prim.Native.Nat.{ℕ, zero, suc, ◌/◌, ◌%◌, ◌^◌, ◌<◌}
use native.Mathlib.Nat.{pow-suc, lt_of_not-le, not-le_of_lt}
use native.Mathlib.Omega.{arith}
use lib.Count.{count_trailing_zeros, under}
use lib.Pow.{pow_mono}

-- The test that `part` makes: the coefficient is 2 to the number of the zeros at its end.
abbrev pub Shifts : ℕ → Type 0
Shifts coef = 2 ^ count_trailing_zeros 32 coef ≡ coef

-- A power of two has as many zeros at its end as its exponent says.
pub power_zeros : (digits k : ℕ) → k < digits → count_trailing_zeros digits (2 ^ k) ≡ k
unfolding count_trailing_zeros
power_zeros zero k h = absurd (omega arith)
power_zeros (suc d) zero h = refl
power_zeros (suc d) (suc k) h =
    let p = pow-suc 2 k in
    let even : 2 ^ suc k % 2 ≡ 0 = omega arith in
    let half : 2 ^ suc k / 2 ≡ 2 ^ k = omega arith in
    ap₂ (λ (r n : ℕ). under r (count_trailing_zeros d n)) even half ∙ ap suc (power_zeros d k (omega arith))

-- So a coefficient, of 32 binary digits, takes the shift exactly if it is a power of two. `long_quotient` asks that it is none.
pub shifts_exactly : (coef : ℕ) → coef < 2 ^ 32 → Shifts coef ↔ ((k : ℕ) × (2 ^ k ≡ coef))
shifts_exactly coef small = (λ e. (count_trailing_zeros 32 coef, e), power)
  where
    power : (k : ℕ) × (2 ^ k ≡ coef) → Shifts coef
    power (k, e) =
        let below : k < 32 = lt_of_not-le (λ h. not-le_of_lt (rw e small) (pow_mono h)) in
        subst Shifts e (ap (λ (j : ℕ). 2 ^ j) (power_zeros 32 k below))
