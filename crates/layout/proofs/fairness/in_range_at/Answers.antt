-- `layout::fairness::in_range_at` meets its contract: what is read is tested.
-- Assumes nothing.
use Rattle.layout.proofs.fairness.in_range_at.Goals as goal

pub returns : goal.returns
returns c = rw c.read.ensures at c.in_range.ensures
