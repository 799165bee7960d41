-- `heard::last_hop` meets its contract: the comparison is the definition's.
-- Assumes nothing.
use mathlib.Core.Path.{refl}
use Rattle.decide.specs.Test.{test}
use Rattle.heard.proofs.last_hop.Goals as goal

pub returns : goal.returns
unfolding test
returns c = rw (c.less.ensures, c.hops_of.ensures) refl
