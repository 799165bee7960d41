-- `fair::Fair::is_over` meets its contract: the sum of two words fits 64 bits, and the comparisons are the definition's.
-- Assumes nothing.
use mathlib.Core.Path.{refl}
use Rattle.decide.specs.Test.{test}
use Rattle.fair.proofs.Fair.is_over.Goals as goal

pub returns : goal.returns
unfolding test
returns c = rw c.is_beyond.ensures refl
