-- `fair::Adjusted::is_near` meets its contract: the distance is what is less, and the code is the test of it.
-- Assumes nothing.
use mathlib.Core.Path.{refl}
use Rattle.decide.specs.Test.{test}
use Rattle.fair.proofs.Adjusted.is_near.Goals as goal

pub returns : goal.returns
unfolding test
returns c = rw c.less-distance.ensures refl
