-- Every coefficient in range takes the shift of `rates::part`. Assumes nothing.
use mathlib.Core.Path.{◌≡◌, refl, sym, subst}
use mathlib.Core.Logic.{⊎_elim}
use Prim.Native.Nat.{ℕ}
use lib.Count.{count_trailing_zeros}
use Rattle.rates.proofs.Shift.{Shifts}
use Rattle.settings.specs.Range.{AgeCoef, Coef, SettingsOk}
use Rattle.settings.specs.declared.Settings.{Settings}

-- x is v, which takes the shift
is : {x : ℕ} (v : ℕ) → Shifts v → x ≡ v → Shifts x
is v shifts e = subst Shifts (sym e) shifts

age_shifts : {x : ℕ} → AgeCoef x → Shifts x
unfolding count_trailing_zeros
age_shifts = ⊎_elim (is 1 refl) (⊎_elim (is 2 refl) (⊎_elim (is 4 refl) (⊎_elim (is 8 refl) (is 16 refl))))

coef_shifts : {x : ℕ} → Coef x → Shifts x
unfolding count_trailing_zeros
coef_shifts = ⊎_elim (is 16 refl) (⊎_elim (is 32 refl) (⊎_elim (is 64 refl) (⊎_elim (is 128 refl) (⊎_elim (is 256 refl) (is 512 refl)))))

-- ageCoef, lpCoef, rampUp and rampDn in range take the shift.
pub settings_shift : (s : Settings) → SettingsOk s → Shifts s.fairness.age × Shifts s.fairness.lp × Shifts s.fairness.ramp × Shifts s.site.down
settings_shift s ok =
    let f = ok.of_fairness in
    (age_shifts f.age_one_of, coef_shifts f.lp_one_of, coef_shifts f.ramp_one_of, coef_shifts ok.of_site.down_one_of)
