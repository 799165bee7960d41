-- The two ends of a pair of stations, by the numbers that each gets from rpr_choose for the way to the other.
-- Assumes nothing.
use Rattle.std.specs.Prelude.{ℕ, List, reverse, ◌≡◌}
use Rattle.ring.specs.Pairs.{links_of}
use Rattle.wrap.specs.Walking.{side_of}
use Rattle.rpr.specs.Told.{answer_byte}

-- the links that a frame from a station crosses by such a number: from there on the side of byte 1, as many hops as byte 2 says; none where it is refused
abbrev pub links_told : ℕ → ℕ → ℕ → List ℕ
links_told stations own r = links_of (side_of (answer_byte r 1)) stations own (answer_byte r 2)

-- The two numbers go together.
pub record PairTold (stations a b there back : ℕ) : Type 0 where
  -- But for the side they are the same: refusal, distance, ttl and wrap mark;
  pub same : (k : ℕ) → (k ≡ 1 → ⊥) → answer_byte there k ≡ answer_byte back k
  -- left there is right back, and right there is left back;
  pub opposite : (answer_byte there 1 ≡ 1 → answer_byte back 1 ≡ 2) × (answer_byte there 1 ≡ 2 → answer_byte back 1 ≡ 1)
  -- and the links from a to b are those from b to a, reversed.
  pub links : links_told stations a there ≡ reverse (links_told stations b back)
