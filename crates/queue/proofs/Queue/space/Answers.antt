-- The space is told from the front.
-- Assumes nothing.
use Rattle.queue.specs.Queue.{space_of}
use Rattle.queue.proofs.Queue.space.Goals as goal

pub returns : goal.returns
unfolding space_of
returns c = rw c.front.ensures at c.space.ensures
