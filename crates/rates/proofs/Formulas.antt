-- The paper's formulas: what each rate is, in plain arithmetic. Whoever needs a formula cites it here.
-- Assumes nothing.
use Prim.Native.Nat.{ℕ, suc, ◌+◌, ◌-◌, ◌*◌, ◌/◌, min}
use mathlib.Core.Path.{◌≡◌, refl}
use Rattle.rates.specs.Rates.{part_of, smoothed_of, shown_of, aged_of, ramped_of, reduced_of, allowance_of, own_rate_of, share_of}
use Rattle.rates.specs.Steady.{steady_of}

-- s − floor(s / lpCoef) + rate, of which floor(s / lpCoef) is shown
pub smoothed_is : (coef s rate : ℕ) → smoothed_of coef s rate ≡ s - s / coef + rate
unfolding smoothed_of part_of
smoothed_is coef s rate = refl

pub shown_is : (coef s : ℕ) → shown_of coef s ≡ s / coef
unfolding shown_of part_of
shown_is coef s = refl

-- with a steady rate, after no interval and after one more
pub steady_none : (coef rate s : ℕ) → steady_of coef rate 0 s ≡ s
unfolding steady_of
steady_none coef rate s = refl

pub steady_next : (coef rate n s : ℕ) → steady_of coef rate (suc n) s ≡ steady_of coef rate n (smoothed_of coef s rate)
unfolding steady_of
steady_next coef rate n s = refl

-- floor(rate × (ageCoef−1) / ageCoef)
pub aged_is : (rate coef : ℕ) → aged_of rate coef ≡ rate * (coef - 1) / coef
unfolding aged_of part_of
aged_is rate coef = refl

-- allowedRate + floor((unreservedRate − allowedRate) / rampUp)
pub ramped_is : (allowed unreserved coef : ℕ) → ramped_of allowed unreserved coef ≡ allowed + (unreserved - allowed) / coef
unfolding ramped_of part_of
ramped_is allowed unreserved coef = refl

-- localFairRate − floor(localFairRate / rampDn)
pub reduced_is : (local coef : ℕ) → reduced_of local coef ≡ local - local / coef
unfolding reduced_of part_of
reduced_is local coef = refl

-- the smaller of unreservedRate and received × weight × unit
pub allowance_is : (received weight unit unreserved : ℕ) → allowance_of received weight unit unreserved ≡ min unreserved (received * weight * unit)
unfolding allowance_of
allowance_is received weight unit unreserved = refl

-- floor(localFairRate / (weight × unit)), at most 65,534
pub own_is : (rate weight unit : ℕ) → own_rate_of rate weight unit ≡ min (rate / (weight * unit)) 65534
unfolding own_rate_of
own_is rate weight unit = refl

-- floor(allowedRate / (ageCoef × ticks per interval))
pub share_is : (allowed coef ticks : ℕ) → share_of allowed coef ticks ≡ allowed / (coef * ticks)
unfolding share_of
share_is allowed coef ticks = refl
