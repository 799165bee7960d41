-- `settings::capacity_ok` meets its contract. The code is the test, comparison for comparison.
-- Assumes nothing.
use mathlib.Core.Path.{refl}
use Rattle.decide.specs.Test.{test}
use Rattle.settings.proofs.capacity_ok.Goals as goal

pub returns : goal.returns
unfolding test
returns c = refl
