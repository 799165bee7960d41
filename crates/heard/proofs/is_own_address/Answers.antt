-- The code is the test, comparison for comparison.
-- Assumes nothing.
use mathlib.Core.Path.{refl}
use Rattle.decide.specs.Test.{test}
use Rattle.heard.proofs.is_own_address.Goals as goal

pub returns : goal.returns
unfolding test
returns c = refl
