-- The fairness state is that after the frame.
-- Assumes nothing.
use Rattle.station.proofs.Station.changed.Goals as goal

pub returns : goal.returns
returns c = rw c.heard-heard.ensures
