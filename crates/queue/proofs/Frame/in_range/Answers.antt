-- The code is the test, comparison for comparison, grouped the other way.
-- Assumes nothing.
use mathlib.Core.Bool.{and_assoc}
use Rattle.decide.specs.Test.{test}
use Rattle.queue.proofs.Frame.in_range.Goals as goal

pub returns : goal.returns
unfolding test
returns c = rw c.hops_ok-hops.ensures (simp and_assoc)
