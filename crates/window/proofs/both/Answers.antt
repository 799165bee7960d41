-- Nothing has come of either.
-- Assumes nothing.
use Rattle.window.proofs.both.Goals as goal

pub returns : goal.returns
returns c = rw c.new-none.ensures
