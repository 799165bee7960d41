-- Public functions of `rates`, by name: two answers that meet the contract are equal.
-- Assumes nothing.
use Rattle.decide.specs.Test.{test}
use Rattle.rates.specs.Rates.{aged_of, allowance_of, counted_of, own_rate_of, part_of, ramped_of, reduced_of, share_of, shown_of, shown_ok_of, smoothed_of}
use Rattle.std.specs.Prelude.{Bool, ℕ, ◌≡◌}
use Rattle.paper.specs.Determined.{Determined}

pub record Functions : Type 0 where
  -- part
  pub part : (x coef : ℕ) → Determined (λ (r : ℕ). r ≡ part_of x coef)
  -- smoothed (a leaf: it asks that stored + rate < 2 ^ 64)
  pub smoothed : (coef stored rate : ℕ) → Determined (λ (r : ℕ). r ≡ smoothed_of coef stored rate)
  -- shown
  pub shown : (coef stored : ℕ) → Determined (λ (r : ℕ). r ≡ shown_of coef stored)
  -- shown_ok
  pub shown_ok : (coef stored : ℕ) → Determined (λ (r : Bool). r ≡ test (shown_ok_of coef stored))
  -- aged
  pub aged : (counter coef : ℕ) → Determined (λ (r : ℕ). r ≡ aged_of counter coef)
  -- ramped
  pub ramped : (value unreserved coef : ℕ) → Determined (λ (r : ℕ). r ≡ ramped_of value unreserved coef)
  -- reduced
  pub reduced : (rate coef : ℕ) → Determined (λ (r : ℕ). r ≡ reduced_of rate coef)
  -- allowance
  pub allowance : (received weight unit unreserved : ℕ) → Determined (λ (r : ℕ). r ≡ allowance_of received weight unit unreserved)
  -- own_rate
  pub own_rate : (local weight unit : ℕ) → Determined (λ (r : ℕ). r ≡ own_rate_of local weight unit)
  -- counted
  pub counted : (counter size : ℕ) → Determined (λ (r : ℕ). r ≡ counted_of counter size)
  -- share
  pub share : (allowed coef ticks : ℕ) → Determined (λ (r : ℕ). r ≡ share_of allowed coef ticks)
