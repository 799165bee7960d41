-- By the test.
-- Assumes nothing.
use borrow.Author.Tests.{lt-ltb, le-ltb}
use Rattle.excerpt.specs.Place.{passed_of}
use Rattle.excerpt.proofs.passed.Goals as goal

pub returns-then-gone-many : goal.returns-then-gone-many
unfolding passed_of
returns-then-gone-many c = rw (lt-ltb _ _ c.if-gone-many.true)

pub returns : goal.returns
unfolding passed_of
returns c = rw (le-ltb _ _ c.if-gone-many.false)
