-- `fair::Decided::in_range` meets its contract: the comparisons stand in the order of the definition, and the method is asked of the settings.
-- Assumes nothing.
use mathlib.Core.Bool.{and_assoc}
use Rattle.decide.specs.Test.{test}
use Rattle.fair.proofs.Decided.in_range.Goals as goal

pub returns : goal.returns
unfolding test
returns c = simp (c.is_aggressive.ensures, and_assoc)
