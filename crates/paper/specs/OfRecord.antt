-- Public functions of `record`, by name: two answers that meet the contract are equal.
-- Assumes nothing.
use Rattle.decide.specs.declared.refusal.Refusal.{Refusal}
use Rattle.record.specs.Step.{header_of_of, item_at, item_within}
use Rattle.record.specs.declared.Placed.{Placed}
use Rattle.shaper.specs.Limits.{most_events}
use Rattle.shaper.specs.declared.Limits.{Limits}
use Rattle.std.specs.Prelude.{Bool, List, Option, Result, ℕ, ◌-◌, ◌≡◌}
use Rattle.paper.specs.Determined.{Determined}

pub record Functions : Type 0 where
  -- header_of
  pub header_of : (s : List ℕ) → Determined (λ (r : Result Limits Refusal). r ≡ header_of_of s)
  -- event_at
  pub event_at : (s : List ℕ) (at mtu : ℕ) (runs : Bool) → Determined (λ (r : Result (Option Placed) Refusal). r ≡ item_at runs mtu s at)
  -- event_within
  pub event_within : (s : List ℕ) (at mtu left : ℕ) (late : Refusal) (runs : Bool) → Determined (λ (r : Result (Option Placed) Refusal). r ≡ item_within runs late left mtu s at)
  -- may_come
  pub may_come : (done : ℕ) → Determined (λ (r : ℕ). r ≡ most_events - done)
