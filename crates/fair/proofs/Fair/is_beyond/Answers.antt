-- `fair::Fair::is_beyond` meets its contract: the comparisons are the definition's.
-- Assumes nothing.
use mathlib.Core.Path.{refl}
use Rattle.decide.specs.Test.{test}
use Rattle.fair.proofs.Fair.is_beyond.Goals as goal

pub returns : goal.returns
unfolding test
returns c = rw c.hops_of.ensures refl
