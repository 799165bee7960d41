-- `fair::adjusting::local_test` meets its contract: the comparison is the definition's.
-- Assumes nothing.
use mathlib.Core.Path.{refl}
use Rattle.decide.specs.Test.{test}
use Rattle.fair.proofs.adjusting.local_test.Goals as goal

pub returns : goal.returns
unfolding test
returns c = refl
