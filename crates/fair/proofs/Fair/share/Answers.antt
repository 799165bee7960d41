-- `fair::Fair::share` meets its contract: the share is of allowedRate, by ageCoef and ticks per interval.
-- Assumes nothing.
use Rattle.fair.proofs.Fair.share.Goals as goal

pub returns : goal.returns
returns c = c.share.ensures
