-- `settings::Site::in_range` meets its contract. The comparisons stand in the order of the definition, and rampDn is tested by its list.
-- Assumes nothing.
use Rattle.decide.specs.Test.{test}
use mathlib.Core.Bool.{and_assoc}
use Rattle.settings.proofs.Site.in_range.Goals as goal

pub returns : goal.returns
unfolding test
returns c = simp (c.coef_ok.ensures, and_assoc)
