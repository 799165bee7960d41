-- Three tests, joined from the left, are their conjunction: `chain`.
-- Assumes nothing.
use mathlib.Core.List.{[], ◌∷◌}
use Rattle.settings.specs.Range.{settings_ok}
use Rattle.decide.proofs.Chain.{chain}
use Rattle.flow.specs.Range.{flow_ok}
use Rattle.fair.specs.Range.{fair_ok}
use Rattle.station.specs.Range.{station_ok}
use Rattle.station.proofs.Station.in_range.Goals as goal

pub returns : goal.returns
unfolding station_ok
returns c = let st = c.args.self in
    let s = st.settings in
    rw (c.in_range-3.ensures, c.in_range-2.ensures, c.in_range.ensures) (chain (settings_ok s) (flow_ok s st.flow ∷ fair_ok s st.fair ∷ []))
