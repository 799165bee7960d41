-- The range test says exactly the named facts, both ways; and a fresh state is in range.
-- Assumes nothing.
use Prim.Native.Nat.{ℕ, ◌≤◌}
use mathlib.Core.Bool.{true}
use mathlib.Core.Logic.{inr}
use mathlib.Core.Path.{◌≡◌}
use native.Mathlib.Omega.{arith}
use Rattle.decide.specs.Test.{test, Holds, facts, passes}
use Rattle.rates.specs.Rates.{shown_of}
use Rattle.rates.proofs.Bounds.{shown_le, own_within}
use Rattle.settings.specs.declared.Settings.{Settings}
use Rattle.settings.specs.Range.{SettingsOk}
use Rattle.heard.proofs.Range.{received_facts, received_holds, none_received_ok}
use Rattle.fair.specs.Four.{Four, Stored}
use Rattle.fair.specs.declared.Decided.{Decided}
use Rattle.fair.specs.declared.Fair.{Fair}
use Rattle.fair.specs.Range.{four_ok, stored_ok, decided_ok, fair_ok, FourOk, StoredOk, DecidedOk, FairOk}
use Rattle.fair.specs.Start.{none_counted, none_stored, start_of}

module _ (r : Four) where
  four_facts : Holds (four_ok r) → FourOk r
  four_facts h = record { add_most = omega arith; fw_most = omega arith; addc_most = omega arith; fwc_most = omega arith }

  four_holds : FourOk r → Holds (four_ok r)
  four_holds ok = omega arith

module _ (lpCoef : ℕ) (s : Stored) where
  stored_facts : Holds (stored_ok lpCoef s) → StoredOk lpCoef s
  stored_facts h = record { add_most = h.0; fw_most = h.1.0; addc_most = h.1.1.0; fwc_most = h.1.1.1 }

  stored_holds : StoredOk lpCoef s → Holds (stored_ok lpCoef s)
  stored_holds ok = (ok.add_most, (ok.fw_most, (ok.addc_most, ok.fwc_most)))

module _ (s : Settings) (d : Decided) where
  decided_facts : Holds (decided_ok s d) → DecidedOk s d
  decided_facts (o, (l, (a, (ac, (c, w))))) = record { own_most = o; local_most = l; allowed_most = a; allowedc_most = ac; congested_most = c; local_within = w }

  decided_holds : DecidedOk s d → Holds (decided_ok s d)
  decided_holds ok = (ok.own_most, (ok.local_most, (ok.allowed_most, (ok.allowedc_most, (ok.congested_most, ok.local_within)))))

module _ (s : Settings) (f : Fair) where
  -- a state in range: the facts
  pub in_range_facts : test (fair_ok s f) ≡ true → FairOk s f
  unfolding fair_ok
  in_range_facts e =
      let (counters, (smoothed, (decided, (since, received)))) = facts (fair_ok s f) e in
      record {
        of_counters = four_facts f.counters counters;
        of_smoothed = stored_facts s.fairness.lp f.smoothed smoothed;
        of_decided = decided_facts s f.decided decided;
        since_below = since;
        of_received = received_facts s.site.stations f.received received;
      }

  -- the facts: a state in range
  pub facts_in_range : FairOk s f → test (fair_ok s f) ≡ true
  unfolding fair_ok
  facts_in_range ok =
      passes
      (fair_ok s f) (
        four_holds f.counters ok.of_counters,
        (
          stored_holds s.fairness.lp f.smoothed ok.of_smoothed,
          (decided_holds s f.decided ok.of_decided, (ok.since_below, received_holds s.site.stations f.received ok.of_received)),
        ),
      )

-- nothing counted and nothing stored are in range
none_counted_ok : FourOk none_counted
none_counted_ok = four_facts none_counted (omega arith)

none_stored_ok : (lpCoef : ℕ) → StoredOk lpCoef none_stored
none_stored_ok lpCoef =
    let none : shown_of lpCoef 0 ≤ 2147483647 = omega (arith, shown_le lpCoef 0) in
    record { add_most = none; fw_most = none; addc_most = none; fwc_most = none }

-- a station that has just started is in range
pub start_in_range : (s : Settings) → SettingsOk s → FairOk s (start_of s)
start_in_range s ok =
    let g = s.fairness in
    record {
      of_counters = none_counted_ok;
      of_smoothed = none_stored_ok g.lp;
      of_decided =
          record {
            own_most = own_within g.unreserved g.weight g.unit;
            local_most = ok.of_fairness.unreserved_most;
            allowed_most = omega arith;
            allowedc_most = omega arith;
            congested_most = omega arith;
            local_within = inr (omega arith);
          };
      since_below = omega (arith, ok.of_site.trip_least);
      of_received = none_received_ok s.site.stations ok.of_site.stations_least;
    }
