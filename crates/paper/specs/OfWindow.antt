-- Public functions of `window`, by name: two answers that meet the contract are equal.
-- Assumes nothing.
use Rattle.decide.specs.declared.refusal.Refusal.{Refusal}
use Rattle.std.specs.Prelude.{Bool, List, Result, ℕ, ◌≡◌}
use Rattle.summary.specs.declared.Summary.{Summary}
use Rattle.window.specs.Both.{alike_of, both_fed, both_start, same_answer_of}
use Rattle.window.specs.declared.Pair.{Pair}
use Rattle.paper.specs.Determined.{Determined}

pub record Functions : Type 0 where
  -- both
  pub both : Determined (λ (r : Pair). r ≡ both_start)
  -- fed
  pub fed : (before : Pair) (first second : List ℕ) → Determined (λ (r : Pair). r ≡ both_fed before first second)
  -- same_answer
  pub same_answer : (a b : Result Summary Refusal) → Determined (λ (r : Bool). r ≡ same_answer_of a b)
  -- alike
  pub alike : (first second : List ℕ) → Determined (λ (r : Bool). r ≡ alike_of first second)
