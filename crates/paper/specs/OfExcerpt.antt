-- Public functions of `excerpt`, by name: two answers that meet the contract are equal.
-- Assumes nothing.
use Rattle.decide.specs.declared.refusal.Refusal.{Refusal}
use Rattle.excerpt.specs.Excerpt.{excerpt_of}
use Rattle.excerpt.specs.Last.{events_left}
use Rattle.excerpt.specs.declared.Excerpt.{Excerpt}
use Rattle.excerpt.specs.declared.Place.{Place}
use Rattle.shaper.specs.declared.Limits.{Limits}
use Rattle.std.specs.Prelude.{List, Result, ℕ, ◌≡◌}
use Rattle.paper.specs.Determined.{Determined}

pub record Functions : Type 0 where
  -- part (a leaf: it asks that Holds (limits_ok limits) × (count ≤ most_events))
  pub part : (s : List ℕ) (limits : Limits) (place : Place) (count : ℕ) → Determined (λ (r : Result Excerpt Refusal). r ≡ excerpt_of limits count s place)
  -- events_left (a leaf: it asks that most ≤ most_events)
  pub events_left_lem : (s : List ℕ) (mtu : ℕ) (place : Place) (most : ℕ) → Determined (λ (r : ℕ). r ≡ events_left most mtu s place)
