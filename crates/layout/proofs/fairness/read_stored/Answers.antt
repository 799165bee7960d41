-- `layout::fairness::read_stored` meets its contract. Each number is what stands at its place.
-- Assumes nothing.
use Rattle.layout.proofs.fairness.read_stored.Goals as goal

pub returns : goal.returns
returns c = cc
