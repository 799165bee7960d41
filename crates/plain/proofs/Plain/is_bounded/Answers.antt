-- Each way through the code decides the test.
-- Assumes nothing.
use borrow.Author.Rules.{rules}
use Rattle.decide.specs.Test.{test}
use Rattle.plain.proofs.Plain.is_bounded.Goals as goal

pub returns-then-self-3 : goal.returns-then-self-3
unfolding test
returns-then-self-3 c = search rules

pub returns-else-self-3 : goal.returns-else-self-3
unfolding test
returns-else-self-3 c = search rules
