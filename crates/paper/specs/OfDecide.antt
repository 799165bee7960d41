-- Public functions of `decide`, by name: two answers that meet the contract are equal.
-- Assumes nothing.
use Rattle.decide.specs.Hops.{in_ring}
use Rattle.decide.specs.Number.{number_in}
use Rattle.decide.specs.Test.{test}
use Rattle.decide.specs.declared.refusal.Refusal.{Refusal}
use Rattle.std.specs.Prelude.{Bool, ltb, max, min, ℕ, ◌-◌, ◌≡◌}
use Rattle.paper.specs.Determined.{Determined}

pub record Functions : Type 0 where
  -- lesser
  pub lesser : (x y : ℕ) → Determined (λ (r : ℕ). r ≡ min x y)
  -- larger
  pub larger : (x y : ℕ) → Determined (λ (r : ℕ). r ≡ max x y)
  -- less
  pub less : (x y : ℕ) → Determined (λ (r : ℕ). r ≡ x - y)
  -- below (a leaf: it asks that (a < 2147483648) × (b < 2147483648))
  pub below : (a b : ℕ) → Determined (λ (r : Bool). r ≡ ltb a b)
  -- in_ring
  pub in_ring_lem : (stations hops : ℕ) → Determined (λ (r : Bool). r ≡ test (in_ring stations hops))
  -- Refusal::number
  pub refusal_number : (self : Refusal) → Determined (λ (r : ℕ). r ≡ number_in self)
