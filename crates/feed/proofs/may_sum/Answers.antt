-- The test of the range is the definition's.
-- Assumes nothing.
use Rattle.feed.proofs.may_sum.Goals as goal

pub returns : goal.returns
returns c = rw c.in_range.ensures
