-- `Stop::moves_on` meets its contract: the link ahead alone is asked.
-- Assumes nothing.
use Rattle.wrap.proofs.Stop.moves_on.Goals as goal

pub returns : goal.returns
returns c = c.ahead.ensures
