-- The code is the test, comparison for comparison.
-- Assumes nothing.
use Rattle.decide.specs.Test.{test}
use Rattle.flow.proofs.stage_ok.Goals as goal

pub returns : goal.returns
unfolding test
returns c = rw c.word_ok.ensures
