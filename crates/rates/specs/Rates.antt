-- The arithmetic of the rates of document 01 and of document 02, A4 and A7, each rule from its sentence. A quotient of natural numbers is rounded down, and by
-- 0 it is 0. Assumes nothing.
use Rattle.std.specs.Prelude.{ℕ, ◌+◌, ◌-◌, ◌*◌, ◌/◌, min}
use Rattle.decide.specs.Test.{Test, ◌≤?◌}

-- floor(x / coef), of a coefficient: ageCoef, lpCoef, rampUp or rampDn.
unfoldable pub part_of : ℕ → ℕ → ℕ
part_of x coef = x / coef

-- Each smoothed rate is kept times lpCoef, as a stored number s; at an interval s becomes s − floor(s / lpCoef) + rate,
unfoldable pub smoothed_of : ℕ → ℕ → ℕ → ℕ
smoothed_of lpCoef s rate = s - part_of s lpCoef + rate

-- and the rate shown is floor(s / lpCoef).
unfoldable pub shown_of : ℕ → ℕ → ℕ
shown_of lpCoef s = part_of s lpCoef

-- A lent station's range binds the rate shown, not s itself: other rates at most 2,147,483,647.
abbrev pub shown_ok_of : ℕ → ℕ → Test
shown_ok_of lpCoef s = shown_of lpCoef s ≤? 2147483647

-- Each counter becomes floor(rate × (ageCoef−1) / ageCoef).
unfoldable pub aged_of : ℕ → ℕ → ℕ
aged_of rate ageCoef = part_of (rate * (ageCoef - 1)) ageCoef

-- allowedRate + floor((unreservedRate − allowedRate) / rampUp), and the same of allowedRateCongested; localFairRate is raised by the rampUp-th part of the
-- distance, rounded down, too (A7).
unfoldable pub ramped_of : ℕ → ℕ → ℕ → ℕ
ramped_of allowed unreserved rampUp = allowed + part_of (unreserved - allowed) rampUp

-- Reduce localFairRate by its rampDn-th part, rounded down (A7).
unfoldable pub reduced_of : ℕ → ℕ → ℕ
reduced_of local rampDn = local - part_of local rampDn

-- allowedRateCongested: if downstream congested the smaller of unreservedRate and received × weight × unit.
unfoldable pub allowance_of : ℕ → ℕ → ℕ → ℕ → ℕ
allowance_of received weight unit unreserved = min unreserved (received * weight * unit)

-- Own rate is floor(localFairRate / (weight × unit)), at most 65,534.
unfoldable pub own_rate_of : ℕ → ℕ → ℕ → ℕ
own_rate_of local weight unit = min (local / (weight * unit)) 65534

-- A frame adds its size to a counter. Counters stop at 2,147,483,647.
unfoldable pub counted_of : ℕ → ℕ → ℕ
counted_of counter size = min (counter + size) 2147483647

-- floor(allowedRate / (ageCoef × ticks per interval)).
unfoldable pub share_of : ℕ → ℕ → ℕ → ℕ
share_of allowed ageCoef ticks = allowed / (ageCoef * ticks)
