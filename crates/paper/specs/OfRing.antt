-- Public functions of `ring`, by name: two answers that meet the contract are equal.
-- Assumes nothing.
use Rattle.decide.specs.declared.refusal.Refusal.{Refusal}
use Rattle.ring.specs.Choosing.{choose_of, misplaced_of}
use Rattle.ring.specs.Links.{other_of}
use Rattle.ring.specs.declared.Choice.{Choice}
use Rattle.ring.specs.declared.Way.{Way}
use Rattle.std.specs.Prelude.{Result, ℕ, ◌≡◌}
use Rattle.paper.specs.Determined.{Determined}

pub record Functions : Type 0 where
  -- choose
  pub choose : (stations own target links side protection ring : ℕ) → Determined (λ (r : Result Choice Refusal). r ≡ choose_of stations own target links side protection ring)
  -- misplaced
  pub misplaced : (stations own target links : ℕ) → Determined (λ (r : Result (Unit {0}) Refusal). r ≡ misplaced_of stations own target links)
  -- Way::other
  pub way_other : (self : Way) → Determined (λ (r : Way). r ≡ other_of self)
