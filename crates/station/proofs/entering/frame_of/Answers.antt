-- Each number is cut by itself.
-- Assumes nothing.
use Rattle.station.proofs.entering.frame_of.Goals as goal

pub returns : goal.returns
returns c = rw (c.cut-4.ensures, c.cut-3.ensures, c.cut-2.ensures, c.cut.ensures)
