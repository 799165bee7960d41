-- When a station is in range: its settings, its frames and credits, and its fairness state are. As a test, and as facts with names.
-- Assumes nothing.
use Rattle.decide.specs.Test.{Test, ◌∧?◌}
use Rattle.settings.specs.Range.{settings_ok, SettingsOk}
use Rattle.flow.specs.Range.{flow_ok, FlowOk}
use Rattle.fair.specs.Range.{fair_ok, FairOk}
use Rattle.station.specs.declared.Station.{Station}

-- A lent station is in range if its settings, frames, slots and bytes held (the sizes' sum, at most the capacity) are, credits are 0 to hiLimit, own and
-- received rates at most 65,534, other rates at most 2,147,483,647, allowed rates at most unreservedRate and a received ttl 193 to 255; of a smoothed
-- rate this binds the rate shown (document 02, A4). No frame and no received ttl has hops that reach the number of stations or more (A5).
unfoldable pub station_ok : Station → Test
station_ok st = settings_ok st.settings ∧? flow_ok st.settings st.flow ∧? fair_ok st.settings st.fair

-- the same as named facts
pub record StationOk (st : Station) : Type 0 where
  pub settings : SettingsOk st.settings
  pub flow : FlowOk st.settings st.flow
  pub fair : FairOk st.settings st.fair
