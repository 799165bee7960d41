-- Each of the four is held to its range, and all of them together.
-- Assumes nothing.
use borrow.Author.Rules.{rules}
use Rattle.decide.specs.Test.{test}
use Rattle.fair.proofs.Four.in_range.Goals as goal

pub returns : goal.returns
unfolding test
returns c = search rules
