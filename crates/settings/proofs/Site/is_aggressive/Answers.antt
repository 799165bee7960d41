-- `settings::Site::is_aggressive` meets its contract. The code is the test.
-- Assumes nothing.
use mathlib.Core.Path.{refl}
use Rattle.decide.specs.Test.{test}
use Rattle.settings.proofs.Site.is_aggressive.Goals as goal

pub returns : goal.returns
unfolding test
returns c = refl
