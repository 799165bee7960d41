-- Public functions of `tally`, by name: two answers that meet the contract are equal.
-- Assumes nothing.
use Rattle.plain.specs.declared.Plain.{Plain}
use Rattle.shaper.specs.declared.Limits.{Limits}
use Rattle.std.specs.Prelude.{Bool, ℕ, ◌≡◌}
use Rattle.tally.specs.Part.{grow_of, none_part, over_of}
use Rattle.tally.specs.Tally.{plain_at, start_of, step_of}
use Rattle.tally.specs.declared.Part.{Part}
use Rattle.tally.specs.declared.Parts.{Parts}
use Rattle.tally.specs.declared.Tally.{Tally}
use Rattle.paper.specs.Determined.{Determined}

pub record Functions : Type 0 where
  -- Part::none (a leaf: it asks that rise ≤ 1048576)
  pub part_none : (rise : ℕ) → Determined (λ (r : Part). r ≡ none_part rise)
  -- Part::grow (a leaf: it asks that Roomy rise self × (rise ≤ 1048576) × (v ≤ most_amount))
  pub part_grow : (self : Part) (rise : ℕ) (send idle : Bool) (v : ℕ) (good : Bool) → Determined (λ (r : Part). r ≡ grow_of rise send idle v good self)
  -- Tally::over (a leaf: it asks that Within most_events self × PartsFit parts × (rise ≤ 1048576))
  pub tally_over : (self : Tally) (rise : ℕ) (parts : Parts) → Determined (λ (r : Tally). r ≡ over_of rise self parts)
  -- start
  pub start : (lo : ℕ) → Determined (λ (r : Tally). r ≡ start_of lo)
  -- step (a leaf: it asks that Within most_events t × (rise ≤ 1048576) × (v ≤ most_amount * most_events))
  pub step : (t : Tally) (rise k v : ℕ) → Determined (λ (r : Tally). r ≡ step_of rise k v t)
  -- finish (a leaf: it asks that Within most_events t)
  pub finish : (limits : Limits) (n : ℕ) (t : Tally) → Determined (λ (r : Plain). r ≡ plain_at limits n t)
