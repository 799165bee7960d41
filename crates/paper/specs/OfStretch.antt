-- Public functions of `stretch`, by name: two answers that meet the contract are equal.
-- Assumes nothing.
use Rattle.decide.specs.declared.refusal.Refusal.{Refusal}
use Rattle.std.specs.Prelude.{List, Result, ℕ, ◌≡◌}
use Rattle.stretch.specs.Stretch.{stretch_of}
use Rattle.summary.specs.declared.Summary.{Summary}
use Rattle.paper.specs.Determined.{Determined}

pub record Functions : Type 0 where
  -- stretch
  pub stretch : (s index : List ℕ) (first last : ℕ) → Determined (λ (r : Result Summary Refusal). r ≡ stretch_of s index first last)
