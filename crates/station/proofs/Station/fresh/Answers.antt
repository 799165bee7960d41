-- Both parts are at their start.
-- Assumes nothing.
use Rattle.station.proofs.Station.fresh.Goals as goal

pub returns : goal.returns
returns c = rw (c.start-fair.ensures, c.start-flow.ensures)
