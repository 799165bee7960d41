-- `layout::fairness::read` meets its contract. Each part is what stands at its place.
-- Assumes nothing.
use Rattle.layout.specs.Layout.{fair_at}
use Rattle.layout.proofs.fairness.read.Goals as goal

pub returns : goal.returns
unfolding fair_at
returns c = cc
