-- Public functions of `wrap`, by name: two answers that meet the contract are equal.
-- Assumes nothing.
use Rattle.decide.specs.declared.refusal.Refusal.{Refusal}
use Rattle.std.specs.Prelude.{Result, ℕ, ◌≡◌}
use Rattle.wrap.specs.Walking.{path_of}
use Rattle.wrap.specs.declared.Journey.{Journey}
use Rattle.paper.specs.Determined.{Determined}

pub record Functions : Type 0 where
  -- path
  pub path : (stations own target links home : ℕ) → Determined (λ (r : Result Journey Refusal). r ≡ path_of stations own target links home)
