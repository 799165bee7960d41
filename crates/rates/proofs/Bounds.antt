-- What each rate stays within, whatever the coefficients are: a quotient is at most what was divided.
-- Assumes nothing.
use Prim.Native.Nat.{ℕ, ◌+◌, ◌-◌, ◌*◌, ◌≤◌, ◌<◌}
use mathlib.Core.Path.{◌≡◌}
use native.Mathlib.Nat.{mul_comm, mul-le-mul_left, mul-div-le, div-le_self, div-le_of_le-mul, div-lt_iff_lt-mul, div-eq_of_lt, le-div_iff_mul-le}
use native.Mathlib.Omega.{arith}
use Rattle.rates.specs.Rates.{part_of, shown_of, aged_of, ramped_of, reduced_of, allowance_of, own_rate_of, counted_of, share_of}

-- ---- a part is the largest whole number that is not above x / coef

pub part_below : (x coef : ℕ) → coef * part_of x coef ≤ x
unfolding part_of
part_below x coef = mul-div-le x coef

pub part_next : (x coef : ℕ) → 0 < coef → x < (part_of x coef + 1) * coef
unfolding part_of
part_next x coef p = (div-lt_iff_lt-mul p).0 (omega arith)

pub part_le : (x coef : ℕ) → part_of x coef ≤ x
unfolding part_of
part_le x coef = div-le_self x coef

-- ---- rates and counters

pub shown_le : (coef s : ℕ) → shown_of coef s ≤ s
unfolding shown_of
shown_le coef s = part_le s coef

pub aged_within : (counter coef : ℕ) → aged_of counter coef ≤ counter
unfolding aged_of part_of
aged_within counter coef =
    div-le_of_le-mul coef (omega (arith, mul-le-mul_left {m = coef - 1} {n = coef} counter (omega arith), mul_comm counter coef))

-- a ramp rises, and not above unreservedRate
pub ramped_rises : (value unreserved coef : ℕ) → value ≤ ramped_of value unreserved coef
unfolding ramped_of
ramped_rises value unreserved coef = omega arith

-- by a distance of rampUp or more it rises indeed
pub ramped_grows : (value unreserved coef : ℕ) → 0 < coef → coef ≤ unreserved - value → value < ramped_of value unreserved coef
unfolding ramped_of part_of
ramped_grows value unreserved coef p h = omega (arith, (le-div_iff_mul-le {k = coef} {x = 1} {y = unreserved - value} p).1 (omega (arith, h)))

pub ramped_within : (value unreserved coef : ℕ) → value ≤ unreserved → ramped_of value unreserved coef ≤ unreserved
unfolding ramped_of
ramped_within value unreserved coef h = omega (arith, part_le (unreserved - value) coef)

-- a step down does not rise, and by less than rampDn it is none
pub reduced_within : (rate coef : ℕ) → reduced_of rate coef ≤ rate
unfolding reduced_of
reduced_within rate coef = omega arith

pub reduced_stands : (rate coef : ℕ) → rate < coef → reduced_of rate coef ≡ rate
unfolding reduced_of part_of
reduced_stands rate coef h = omega (arith, div-eq_of_lt h)

pub allowance_within : (received weight unit unreserved : ℕ) → allowance_of received weight unit unreserved ≤ unreserved
unfolding allowance_of
allowance_within received weight unit unreserved = omega arith

pub own_within : (local weight unit : ℕ) → own_rate_of local weight unit ≤ 65534
unfolding own_rate_of
own_within local weight unit = omega arith

-- a counter grows, and not above its largest number
pub counted_grows : (counter size : ℕ) → counter ≤ 2147483647 → counter ≤ counted_of counter size
unfolding counted_of
counted_grows counter size h = omega arith

pub counted_within : (counter size : ℕ) → counted_of counter size ≤ 2147483647
unfolding counted_of
counted_within counter size = omega arith

pub share_within : (allowed coef ticks : ℕ) → share_of allowed coef ticks ≤ allowed
unfolding share_of
share_within allowed coef ticks = div-le_self allowed (coef * ticks)
