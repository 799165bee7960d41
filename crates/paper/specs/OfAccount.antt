-- Public functions of `account`, by name: two answers that meet the contract are equal.
-- Assumes nothing.
use Rattle.account.specs.Account.{events_of, summarize_in}
use Rattle.decide.specs.declared.refusal.Refusal.{Refusal}
use Rattle.shaper.specs.declared.Limits.{Limits}
use Rattle.std.specs.Prelude.{Bool, List, Result, ℕ, ◌≡◌}
use Rattle.summary.specs.declared.Summary.{Summary}
use Rattle.paper.specs.Determined.{Determined}

pub record Functions : Type 0 where
  -- summarize
  pub summarize : (s : List ℕ) (runs : Bool) → Determined (λ (r : Result Summary Refusal). r ≡ summarize_in runs s)
  -- events (a leaf: it asks that Holds (limits_ok limits) × (most ≤ most_events))
  pub events : (s : List ℕ) (limits : Limits) (most : ℕ) (runs : Bool) → Determined (λ (r : Result Summary Refusal). r ≡ events_of runs limits most s)
