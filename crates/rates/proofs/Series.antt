-- The aging series of the fairness draft, by computation.
-- Assumes nothing.
use Prim.Native.Nat.{ℕ, zero, suc}
use mathlib.Core.Path.{◌≡◌, refl}
use mathlib.Core.List.{List, [], ◌∷◌}
use Rattle.rates.specs.Rates.{part_of, aged_of, counted_of}

-- a counter at the end of each of n intervals, before it is aged, where each interval adds 1,000 bytes
unfoldable pub intervals : ℕ → ℕ → List ℕ
intervals zero counter = []
intervals (suc n) counter = counted_of counter 1000 ∷ intervals n (aged_of (counted_of counter 1000) 4)

-- The draft's clause 9.8: with ageCoef 4 and 1,000 bytes in each interval, the counter takes these values.
pub series : intervals 10 0 ≡ 1000 ∷ 1750 ∷ 2312 ∷ 2734 ∷ 3050 ∷ 3287 ∷ 3465 ∷ 3598 ∷ 3698 ∷ 3773 ∷ []
unfolding intervals aged_of part_of counted_of
series = refl
