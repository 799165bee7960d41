-- It is told from the front.
-- Assumes nothing.
use Rattle.queue.proofs.Queue.holds_frame.Goals as goal

pub returns : goal.returns
returns c = rw c.front.ensures at c.holds_frame.ensures
