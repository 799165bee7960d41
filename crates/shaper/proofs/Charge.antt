-- A charge, row by row.
-- Assumes nothing.
use Prim.Native.Nat.{ℕ, ◌<◌}
use mathlib.Core.Bool.{true, false}
use mathlib.Core.Path.{◌≡◌, refl}
use Rattle.std.specs.Prelude.{Ok, Err}
use Rattle.decide.specs.Refusal.{refused_or, RefusedExactly}
use Rattle.decide.proofs.Given.{in_order_lem, refused_exactly}
use Rattle.decide.proofs.Number.{number_told}
use Rattle.decide.proofs.Refused.{number_by, leaves_by}
use Rattle.shaper.specs.declared.Shaper.{Shaper}
use Rattle.shaper.specs.declared.Event.TheVariants.{Send}
use Rattle.shaper.specs.Credit.{permits, next}
use Rattle.shaper.specs.Short.{shortfall}
use Rattle.shaper.specs.Refused.{refused, number_said, afterwards}
use Rattle.shaper.specs.Shaper.{Charged, charge_faults, charge_of}

module _ (s : Shaper) (z : ℕ) where
  -- where credit > loLimit the size is taken off
  pub permitted : permits s.credit s.limits.lo ≡ true → charge_of s z ≡ Ok (record { limits = s.limits; credit = next s.limits s.credit (Send z) })
  unfolding refused_or
  permitted e = rw (in_order_lem (charge_faults s) refl, e)

  -- elsewhere the answer is 6 and how far short: no shaper is answered, so that it stays as it was (`charge_leaves`)
  pub turned_down : permits s.credit s.limits.lo ≡ false → charge_of s z ≡ Err (refused 6 (shortfall s.credit s.limits.lo))
  unfolding refused_or
  turned_down e = rw (in_order_lem (charge_faults s) refl, e)

  -- 6 is given exactly when the shaper doesn't permit
  pub charge_refused_exactly : RefusedExactly (number_said (charge_of s z)) (charge_faults s)
  charge_refused_exactly = refused_exactly (charge_faults s) refl _ (number_by (λ (r : Charged). number_said r) _ _ number_told refl _)

  -- and a refusal leaves the shaper as it was
  pub charge_leaves : 0 < number_said (charge_of s z) → afterwards s (charge_of s z) ≡ s
  charge_leaves = leaves_by (λ (r : Charged). number_said r) _ _ number_told refl (afterwards s) (λ m. refl) _
