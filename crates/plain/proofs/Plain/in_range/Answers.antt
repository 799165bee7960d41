-- Each way through the code decides the test.
-- Assumes nothing.
use borrow.Author.Rules.{rules}
use Rattle.decide.specs.Test.{test}
use Rattle.plain.proofs.Plain.in_range.Goals as goal

pub is_bounded-requires : goal.is_bounded-requires
unfolding test
is_bounded-requires c = search rules

pub is_usable-requires : goal.is_usable-requires
unfolding test
is_usable-requires c = search rules

pub returns-then-is_bounded : goal.returns-then-is_bounded
unfolding test
returns-then-is_bounded c = search rules

pub returns-else-is_bounded : goal.returns-else-is_bounded
unfolding test
returns-else-is_bounded c = search rules
