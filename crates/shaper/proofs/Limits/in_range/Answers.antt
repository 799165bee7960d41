-- The code is the test, comparison for comparison, grouped the other way.
-- Assumes nothing.
use mathlib.Core.Bool.{and_assoc}
use Rattle.decide.specs.Test.{test}
use Rattle.shaper.proofs.Limits.in_range.Goals as goal

pub returns : goal.returns
unfolding test
returns c = simp and_assoc
