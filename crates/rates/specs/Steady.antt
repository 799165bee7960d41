-- A steady rate: what is stored after some intervals with the same rate, and how far off the rate shown is. Assumes nothing.
use Rattle.std.specs.Prelude.{ℕ, zero, suc, ◌+◌, ◌-◌}
use Rattle.rates.specs.Rates.{smoothed_of}

-- the stored number after so many intervals with this rate
unfoldable pub steady_of : ℕ → ℕ → ℕ → ℕ → ℕ
steady_of lpCoef rate zero s = s
steady_of lpCoef rate (suc n) s = steady_of lpCoef rate n (smoothed_of lpCoef s rate)

-- how far two rates are apart, whichever is the larger
abbrev pub gap_of : ℕ → ℕ → ℕ
gap_of a b = (a - b) + (b - a)
