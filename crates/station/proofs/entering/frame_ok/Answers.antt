-- The bounds are those of the settings.
-- Assumes nothing.
use Rattle.station.proofs.entering.frame_ok.Goals as goal

pub returns : goal.returns
returns c = rw (c.in_range.ensures, c.bounds.ensures)
