-- The range of a station: the test says exactly the named facts, both ways; and a fresh one has it.
-- Assumes nothing.
use mathlib.Core.Bool.{true, ◌&&◌}
use mathlib.Core.Path.{◌≡◌}
use Rattle.decide.specs.Test.{test, both, and_i}
use Rattle.settings.specs.declared.Settings.{Settings}
use Rattle.settings.specs.Range.{settings_ok, SettingsOk}
use Rattle.settings.proofs.Range as settings
use Rattle.flow.specs.Range.{flow_ok}
use Rattle.flow.proofs.Range as flow
use Rattle.fair.specs.Range.{fair_ok}
use Rattle.fair.proofs.Range as fair
use Rattle.station.specs.declared.Station.{Station}
use Rattle.station.specs.Range.{station_ok, StationOk}
use Rattle.station.specs.Calls.{fresh_of}

module _ (st : Station) where
  pub in_range_facts : test (station_ok st) ≡ true → StationOk st
  unfolding station_ok test
  in_range_facts e =
      let s = st.settings in
      let p = both (test (settings_ok s)) (test (flow_ok s st.flow) && test (fair_ok s st.fair)) e in
      let q = both (test (flow_ok s st.flow)) (test (fair_ok s st.fair)) p.1 in
      record {
        settings = settings.in_range_facts s p.0;
        flow = flow.in_range_facts s st.flow q.0;
        fair = fair.in_range_facts s st.fair q.1;
      }

  pub facts_in_range : StationOk st → test (station_ok st) ≡ true
  unfolding station_ok test
  facts_in_range ok =
      let s = st.settings in
      and_i (test (settings_ok s)) (test (flow_ok s st.flow) && test (fair_ok s st.fair))
      (settings.facts_in_range s ok.settings)
      (and_i (test (flow_ok s st.flow)) (test (fair_ok s st.fair)) (flow.facts_in_range s st.flow ok.flow) (fair.facts_in_range s st.fair ok.fair))

-- a fresh station is in range
pub fresh_ok : {s : Settings} → SettingsOk s → StationOk (fresh_of s)
fresh_ok {s} ok = record { settings = ok; flow = flow.start_ok ok; fair = fair.start_in_range s ok }
