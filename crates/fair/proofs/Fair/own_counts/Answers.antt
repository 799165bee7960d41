-- `fair::Fair::own_counts` meets its contract: the comparisons are the definition's.
-- Assumes nothing.
use mathlib.Core.Path.{refl}
use Rattle.decide.specs.Test.{test}
use Rattle.fair.proofs.Fair.own_counts.Goals as goal

pub returns : goal.returns
unfolding test
returns c = refl
