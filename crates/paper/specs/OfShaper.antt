-- Public functions of `shaper`, by name: two answers that meet the contract are equal.
-- Assumes nothing.
use Rattle.decide.specs.Test.{test}
use Rattle.shaper.specs.Limits.{limits_ok, same_limits}
use Rattle.shaper.specs.Shaper.{charge_of, fresh_of, ticked_of}
use Rattle.shaper.specs.Short.{shortfall}
use Rattle.shaper.specs.declared.Limits.{Limits}
use Rattle.shaper.specs.declared.Refused.{Refused}
use Rattle.shaper.specs.declared.Shaper.{Shaper}
use Rattle.std.specs.Prelude.{Bool, Result, ℕ, ◌≡◌}
use Rattle.paper.specs.Determined.{Determined}

pub record Functions : Type 0 where
  -- Limits::in_range
  pub limits_in_range : (self : Limits) → Determined (λ (r : Bool). r ≡ test (limits_ok self))
  -- Limits::same
  pub limits_same : (self other : Limits) → Determined (λ (r : Bool). r ≡ test (same_limits self other))
  -- ask
  pub ask : (credit lo : ℕ) → Determined (λ (r : ℕ). r ≡ shortfall credit lo)
  -- Shaper::fresh
  pub shaper_fresh : (limits : Limits) → Determined (λ (r : Shaper). r ≡ fresh_of limits)
  -- Shaper::tick
  pub shaper_tick : (self : Shaper) (waiting : Bool) (amount : ℕ) → Determined (λ (r : Shaper). r ≡ ticked_of self waiting amount)
  -- Shaper::charge
  pub shaper_charge : (self : Shaper) (size : ℕ) → Determined (λ (r : Result Shaper Refused). r ≡ charge_of self size)
