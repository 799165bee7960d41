-- Public functions of `heartbeat`, by name: two answers that meet the contract are equal.
-- Assumes nothing.
use Rattle.decide.specs.declared.refusal.Refusal.{Refusal}
use Rattle.heartbeat.specs.Doubling.{doubling_of}
use Rattle.heartbeat.specs.Heartbeat.{from_low_of, heartbeat_answer, heartbeats_of, pattern_of}
use Rattle.heartbeat.specs.Repeat.{repeated_of}
use Rattle.heartbeat.specs.declared.Repeats.{Repeats}
use Rattle.std.specs.Prelude.{List, Option, Result, ℕ, ◌≡◌}
use Rattle.summary.specs.declared.Summary.{Summary}
use Rattle.paper.specs.Determined.{Determined}

pub record Functions : Type 0 where
  -- rpr_heartbeat
  pub rpr_heartbeat : (pattern : List ℕ) (repeats : ℕ) → Determined (λ (r : ℕ). r ≡ heartbeat_answer pattern repeats)
  -- heartbeats
  pub heartbeats : (pattern : List ℕ) (repeats : ℕ) → Determined (λ (r : Result Summary Refusal). r ≡ heartbeats_of pattern repeats)
  -- from_low
  pub from_low : (answer : Result Summary Refusal) → Determined (λ (r : Result (Option ℕ) Refusal). r ≡ from_low_of answer)
  -- pattern_of
  pub pattern_of_lem : (pattern : List ℕ) → Determined (λ (r : Result Summary Refusal). r ≡ pattern_of pattern)
  -- repeated
  pub repeated : (one : Summary) (repeats : ℕ) → Determined (λ (r : Result Summary Refusal). r ≡ repeated_of one repeats)
  -- doubled
  pub doubled : (one : Summary) (repeats : ℕ) → Determined (λ (r : Repeats). r ≡ doubling_of one repeats)
