-- The shaper's tick, with these limits.
-- Assumes nothing.
use Rattle.flow.proofs.ticked.Goals as goal

pub returns : goal.returns
returns c = rw (c.tick-after.ensures, c.limits-limits.ensures)
