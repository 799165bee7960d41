-- The aging interval in the paper's order, by either method; smoothing is that of document 02, A4, and the methods are in `Methods`. Assumes nothing.
use Rattle.std.specs.Prelude.{ℕ, ◌+◌, ◌^◌, ◌<◌, min, cond}
use Rattle.decide.specs.Test.{test, ◌≡?◌}
use Rattle.rates.specs.Rates.{smoothed_of, shown_of, aged_of, ramped_of, allowance_of, own_rate_of}
use Rattle.settings.specs.declared.Fairness.{Fairness}
use Rattle.settings.specs.declared.Settings.{Settings}
use Rattle.fair.specs.Four.{Four, Stored}
use Rattle.fair.specs.declared.Decided.{Decided}
use Rattle.fair.specs.declared.Fair.{Fair}
use Rattle.fair.specs.declared.Adjusted.{Adjusted}
use Rattle.fair.specs.Methods.{Row, row_of, adjust_of}

-- Each smoothed rate is kept times lpCoef, as a stored number s; at an interval s becomes s − floor(s / lpCoef) + rate,
abbrev pub smooth_of : Stored → ℕ → Four → Stored
smooth_of s lpCoef rate = record {
  add = smoothed_of lpCoef s.add rate.add;
  fw = smoothed_of lpCoef s.fw rate.fw;
  addc = smoothed_of lpCoef s.addc rate.addc;
  fwc = smoothed_of lpCoef s.fwc rate.fwc;
}

-- and the rate shown is floor(s / lpCoef).
abbrev pub shown_four : ℕ → Stored → Four
shown_four lpCoef s = record {
  add = shown_of lpCoef s.add;
  fw = shown_of lpCoef s.fw;
  addc = shown_of lpCoef s.addc;
  fwc = shown_of lpCoef s.fwc;
}

-- what is stored and what is added have room in 64 bits together
abbrev pub SumsFit : Stored → Four → Type 0
SumsFit s rate = (s.add + rate.add < 2 ^ 64) × (s.fw + rate.fw < 2 ^ 64) × (s.addc + rate.addc < 2 ^ 64) × (s.fwc + rate.fwc < 2 ^ 64)

-- allowedRate: the smaller of localFairRate and unreservedRate if locally congested, else allowedRate + floor((unreservedRate − allowedRate) / rampUp).
unfoldable pub allowed_of : ℕ → Fairness → Adjusted → ℕ
allowed_of allowed g a =
    cond (test (a.congested ≡? 1))
    (min a.local g.unreserved)
    (ramped_of allowed g.unreserved g.ramp)

-- allowedRateCongested: if downstream congested the smaller of unreservedRate and received × weight × unit, else ramped the same way.
unfoldable pub allowedc_of : Fair → Fairness → ℕ
allowedc_of f g =
    cond (test (f.received.downstream ≡? 1))
    (allowance_of f.received.rate g.weight g.unit g.unreserved)
    (ramped_of f.decided.allowedc g.unreserved g.ramp)

-- Each counter becomes floor(rate × (ageCoef−1) / ageCoef).
abbrev pub lower_of : Four → ℕ → Four
lower_of rate ageCoef = record {
  add = aged_of rate.add ageCoef;
  fw = aged_of rate.fw ageCoef;
  addc = aged_of rate.addc ageCoef;
  fwc = aged_of rate.fwc ageCoef;
}

-- The allowed rates and own rate, from congestion and localFairRate as adjusted. Own rate is floor(localFairRate / (weight × unit)), at most 65,534.
abbrev pub new_decided : Fair → Fairness → Adjusted → Decided
new_decided f g a = record {
  local = a.local;
  allowed = allowed_of f.decided.allowed g a;
  allowedc = allowedc_of f g;
  own = own_rate_of a.local g.weight g.unit;
  congested = a.congested;
}

-- the four stored numbers that an interval leaves
abbrev pub new_smoothed : Fair → Settings → Stored
new_smoothed f s = smooth_of f.smoothed s.fairness.lp f.counters

-- local congestion, localFairRate and the intervals since its last change, as they are
abbrev pub adjusted_now : Fair → Adjusted
adjusted_now f = record { congested = f.decided.congested; local = f.decided.local; since = f.since }

-- the row that an interval of the conservative method takes, with so many bytes in the secondary queue
abbrev pub row_for : Fair → Settings → ℕ → Row
row_for f s held = row_of s (adjusted_now f) held

-- and the three as an interval adjusts them by the method that is chosen
abbrev pub new_adjusted : Fair → Settings → ℕ → Adjusted
new_adjusted f s held = adjust_of s (adjusted_now f) (new_smoothed f s) held

-- The interval, with so many bytes in the secondary queue. What was received stays.
abbrev pub age_of : Fair → Settings → ℕ → Fair
age_of f s held = record {
  counters = lower_of f.counters s.fairness.age;
  smoothed = new_smoothed f s;
  decided = new_decided f s.fairness (new_adjusted f s held);
  since = (new_adjusted f s held).since;
  received = f.received;
}
