-- The three queues are the empty one.
-- Assumes nothing.
use Rattle.flow.specs.Tick.{start_of}
use Rattle.flow.proofs.Flow.start.Goals as goal

pub returns : goal.returns
unfolding start_of
returns c = rw c.empty-empty.ensures
