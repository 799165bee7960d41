-- The code is the test.
-- Assumes nothing.
use mathlib.Core.Path.{refl}
use Rattle.decide.specs.Test.{test}
use Rattle.decide.proofs.in_ring.Goals as goal

pub returns : goal.returns
unfolding test
returns c = refl
