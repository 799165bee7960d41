-- A steady rate over calls: at each interval among them its counter stands at the same number. Assumes nothing.
use Rattle.std.specs.Prelude.{ℕ, ◌+◌, List, [], ◌∷◌, ◌≡◌}
use Rattle.rates.specs.Rates.{shown_of}
use Rattle.fair.specs.Four.{Four, Stored}
use Rattle.station.specs.declared.Station.{Station}
use Rattle.station.specs.History.{Call, tick, offer_client, offer_transit, offer_control, select, age, hear, tell, show, step}

-- One of the four rates.
pub data Rate : Type 0 where
  add : Rate
  fw : Rate
  add_congested : Rate
  fw_congested : Rate

-- its counter,
abbrev pub counter_of : Rate → Four → ℕ
counter_of add r = r.add
counter_of fw r = r.fw
counter_of add_congested r = r.addc
counter_of fw_congested r = r.fwc

-- the stored number of its smoothed rate,
abbrev pub stored_of : Rate → Stored → ℕ
stored_of add s = s.add
stored_of fw s = s.fw
stored_of add_congested s = s.addc
stored_of fw_congested s = s.fwc

-- and its smoothed rate as a station shows it
abbrev pub shown_for : Rate → Station → ℕ
shown_for k st = shown_of st.settings.fairness.lp (stored_of k st.fair.smoothed)

-- how many intervals a call ends,
abbrev pub ends : Call → ℕ
ends (tick a b c) = 0
ends (offer_client class size hops) = 0
ends (offer_transit class size hops eligible) = 0
ends (offer_control size) = 0
ends select = 0
ends age = 1
ends (hear frame bytes) = 0
ends tell = 0
ends show = 0

-- and some calls together
abbrev pub intervals : List Call → ℕ
intervals [] = 0
intervals (c ∷ cs) = ends c + intervals cs

-- At each interval among the calls the rate's counter stands at this number.
abbrev pub SteadyAt : Rate → ℕ → Station → List Call → Type 0
SteadyAt k rate st [] = Unit {0}
SteadyAt k rate st (c ∷ cs) = (c ≡ age → counter_of k st.fair.counters ≡ rate) × SteadyAt k rate (step c st).station cs
