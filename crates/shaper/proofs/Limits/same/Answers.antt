-- The code is the test, comparison for comparison.
-- Assumes nothing.
use borrow.Author.Rules.{rules}
use Rattle.decide.specs.Test.{test}
use Rattle.shaper.proofs.Limits.same.Goals as goal

pub returns : goal.returns
unfolding test
returns c = search rules
