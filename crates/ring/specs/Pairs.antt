-- The two ends of a pair of stations, each asking for the way to the other.
-- Assumes nothing: these are definitions.
use Rattle.std.specs.Prelude.{ℕ, zero, suc, Bool, List, [], ◌∷◌, reverse, ◌≡◌, Err}
use Rattle.decide.specs.declared.refusal.Refusal.{Refusal}
use Rattle.ring.specs.declared.Way.{Way}
use Rattle.ring.specs.Links.{other_of, next_of, link_of}
use Rattle.ring.specs.Choosing.{code_of, ChoiceAnswer, chosen_as}

-- the links that so many hops on a side cross, in their order
abbrev pub links_of : Way → ℕ → ℕ → ℕ → List ℕ
links_of way stations at zero = []
links_of way stations at (suc hops) = link_of way stations at ∷ links_of way stations (next_of way stations at) hops

-- What the ends a and b are answered goes together.
pub record Together (stations a b : ℕ) (there back : ChoiceAnswer) : Type 0 where
  -- Where a side is chosen from a to b, the other is from b to a, over as many hops and with the same ttl and wrap mark;
  pub opposite : (way : Way) (distance ttl : ℕ) (mark : Bool) → there ≡ chosen_as (code_of way) distance ttl mark
      → back ≡ chosen_as (code_of (other_of way)) distance ttl mark
  -- and the links from a to b are those from b to a, reversed.
  pub links : (way : Way) (distance ttl : ℕ) (mark : Bool) → there ≡ chosen_as (code_of way) distance ttl mark
      → links_of way stations a distance ≡ reverse (links_of (other_of way) stations b distance)
  -- Where a is refused so is b, in the same way.
  pub refused : (r : Refusal) → there ≡ Err r → back ≡ Err r
