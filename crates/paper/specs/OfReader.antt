-- Public functions of `reader`, by name: two answers that meet the contract are equal.
-- Assumes nothing.
use Rattle.decide.specs.declared.refusal.Refusal.{Refusal}
use Rattle.reader.specs.Place.{next_at}
use Rattle.reader.specs.declared.Place.{Place}
use Rattle.record.specs.declared.Placed.{Placed}
use Rattle.std.specs.Prelude.{List, Option, Result, ℕ, ◌≡◌}
use Rattle.paper.specs.Determined.{Determined}

pub record Functions : Type 0 where
  -- read_at
  pub read_at : (bytes : List ℕ) (place : Place) → Determined (λ (r : Result (Option Placed) Refusal). r ≡ next_at bytes place)
