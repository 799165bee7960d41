-- What is taken from the queue.
-- Assumes nothing.
use Rattle.flow.proofs.Flow.without_first.Goals as goal

pub returns : goal.returns
returns c = rw (c.with_queue.ensures, c.take-out.ensures, c.queue-queue.ensures)
