-- Each way through the code decides the test.
-- Assumes nothing.
use borrow.Author.Rules.{rules}
use Rattle.decide.specs.Test.{test}
use Rattle.plain.proofs.Plain.is_usable.Goals as goal

pub returns-then-hi-self : goal.returns-then-hi-self
unfolding test
returns-then-hi-self c = search rules

pub returns-then-self-hi : goal.returns-then-self-hi
unfolding test
returns-then-self-hi c = search rules

pub returns-else-self-hi : goal.returns-else-self-hi
unfolding test
returns-else-self-hi c = search rules
