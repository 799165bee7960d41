-- `fair::raised` meets its contract: the two branches are those of the definition.
-- Assumes nothing.
use Rattle.fair.specs.Count.{raised_of}
use Rattle.fair.proofs.raised.Goals as goal

pub returns-then-counts : goal.returns-then-counts
unfolding raised_of
returns-then-counts c = rw (c.counted.ensures, c.if-counts.true)

pub returns-else-counts : goal.returns-else-counts
unfolding raised_of
returns-else-counts c = rw c.if-counts.false
