-- Public functions of `plain`, by name: two answers that meet the contract are equal.
-- Assumes nothing.
use Rattle.decide.specs.Test.{test}
use Rattle.plain.specs.Ceiling.{depth_below}
use Rattle.plain.specs.Plain.{plain_end_of, plain_joined}
use Rattle.plain.specs.Range.{plain_range}
use Rattle.plain.specs.declared.Plain.{Plain}
use Rattle.std.proofs.Math.IntN.{sub_ℕ}
use Rattle.std.specs.Prelude.{Bool, ℕ, ℤ, ◌≡◌}
use Rattle.paper.specs.Determined.{Determined}

pub record Functions : Type 0 where
  -- Plain::in_range
  pub plain_in_range : (self : Plain) → Determined (λ (r : Bool). r ≡ test (plain_range self))
  -- Plain::joined (a leaf: it asks that Small self × Small other)
  pub plain_joined_lem : (self other : Plain) → Determined (λ (r : Plain). r ≡ plain_joined self other)
  -- Plain::end (a leaf: it asks that Small self × (start ≤ self.limits.hi))
  pub plain_end : (self : Plain) (start : ℕ) → Determined (λ (r : ℕ). r ≡ plain_end_of self start)
  -- depth_of
  pub depth_of : (hi : ℕ) (ceiling : ℤ) → Determined (λ (r : ℕ). r ≡ depth_below hi ceiling)
  -- ceiling_of (a leaf: it asks that depth ≤ 9223372036854775807)
  pub ceiling_of : (hi depth : ℕ) → Determined (λ (r : ℤ). r ≡ sub_ℕ hi depth)
