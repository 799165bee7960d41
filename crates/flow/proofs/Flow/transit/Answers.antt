-- The queue is that of the class.
-- Assumes nothing.
use Rattle.flow.proofs.Flow.transit.Goals as goal

pub returns : goal.returns
returns c = rw (c.enter.ensures, c.queue_for-line.ensures)
