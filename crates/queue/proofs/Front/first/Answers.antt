-- The first slot of such a queue holds the word.
-- Assumes nothing.
use Rattle.queue.specs.Queue.{first_frame}
use Rattle.queue.proofs.Front.first.Goals as goal

pub returns : goal.returns
unfolding first_frame
returns c = c.of.ensures
