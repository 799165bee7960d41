-- The range of the fairness state: "own and received rates at most 65,534, other rates at most 2,147,483,647, allowed rates at most unreservedRate
-- and a received ttl 193 to 255"; of a smoothed rate it binds the rate shown, a received ttl tells of no hops beyond the ring, and the conservative
-- localFairRate is at most unreservedRate (document 02, A4, A5 and A7).
-- Assumes nothing.
use Rattle.std.specs.Prelude.{ℕ, ◌≤◌, ◌<◌, ◌⊎◌, ◌≡◌}
use Rattle.decide.specs.Test.{Test, ◌≤?◌, ◌<?◌, ◌∧?◌, ◌∨?◌}
use Rattle.rates.specs.Rates.{shown_of, shown_ok_of}
use Rattle.settings.specs.declared.Settings.{Settings}
use Rattle.settings.specs.Range.{aggressive}
use Rattle.heard.specs.Range.{received_ok, ReceivedOk}
use Rattle.fair.specs.Four.{Four, Stored}
use Rattle.fair.specs.declared.Decided.{Decided}
use Rattle.fair.specs.declared.Fair.{Fair}

-- other rates at most 2,147,483,647: the four counters
abbrev pub four_ok : Four → Test
four_ok r = r.add ≤? 2147483647 ∧? r.fw ≤? 2147483647 ∧? r.addc ≤? 2147483647 ∧? r.fwc ≤? 2147483647

-- A lent station's range binds the rate shown, not s itself.
abbrev pub stored_ok : ℕ → Stored → Test
stored_ok lpCoef s = shown_ok_of lpCoef s.add ∧? shown_ok_of lpCoef s.fw ∧? shown_ok_of lpCoef s.addc ∧? shown_ok_of lpCoef s.fwc

-- own rate, localFairRate, both allowed rates, and a flag, 0 or 1; the conservative localFairRate never exceeds unreservedRate (a lent one above it: 1)
abbrev pub decided_ok : Settings → Decided → Test
decided_ok s d =
    d.own ≤? 65534 ∧? d.local ≤? 2147483647
    ∧? d.allowed ≤? s.fairness.unreserved ∧? d.allowedc ≤? s.fairness.unreserved
    ∧? d.congested ≤? 1
    ∧? (aggressive s.site ∨? d.local ≤? s.fairness.unreserved)

-- The intervals since the last change are fewer than a round trip, under both methods.
unfoldable pub fair_ok : Settings → Fair → Test
fair_ok s f =
    four_ok f.counters ∧? stored_ok s.fairness.lp f.smoothed ∧? decided_ok s f.decided
    ∧? f.since <? s.site.trip ∧? received_ok s.site.stations f.received

-- ---- the same as named facts

pub record FourOk (r : Four) : Type 0 where
  pub add_most : r.add ≤ 2147483647
  pub fw_most : r.fw ≤ 2147483647
  pub addc_most : r.addc ≤ 2147483647
  pub fwc_most : r.fwc ≤ 2147483647

pub record StoredOk (lpCoef : ℕ) (s : Stored) : Type 0 where
  pub add_most : shown_of lpCoef s.add ≤ 2147483647
  pub fw_most : shown_of lpCoef s.fw ≤ 2147483647
  pub addc_most : shown_of lpCoef s.addc ≤ 2147483647
  pub fwc_most : shown_of lpCoef s.fwc ≤ 2147483647

pub record DecidedOk (s : Settings) (d : Decided) : Type 0 where
  pub own_most : d.own ≤ 65534
  pub local_most : d.local ≤ 2147483647
  pub allowed_most : d.allowed ≤ s.fairness.unreserved
  pub allowedc_most : d.allowedc ≤ s.fairness.unreserved
  pub congested_most : d.congested ≤ 1
  pub local_within : (s.site.method ≡ 0) ⊎ (d.local ≤ s.fairness.unreserved)

pub record FairOk (s : Settings) (f : Fair) : Type 0 where
  pub of_counters : FourOk f.counters
  pub of_smoothed : StoredOk s.fairness.lp f.smoothed
  pub of_decided : DecidedOk s f.decided
  pub since_below : f.since < s.site.trip
  pub of_received : ReceivedOk s.site.stations f.received
