-- The test is the definition's.
-- Assumes nothing.
use borrow.Author.Tests.{eq-eqb, ne_eqb}
use Rattle.flow.specs.Offer.{queue_for}
use Rattle.flow.proofs.Line.queue_for.Goals as goal

pub returns-then-class-eq0 : goal.returns-then-class-eq0
unfolding queue_for
returns-then-class-eq0 c = rw (eq-eqb _ 0 c.if-class-eq0.true)

pub returns-else-class-eq0 : goal.returns-else-class-eq0
unfolding queue_for
returns-else-class-eq0 c = rw (ne_eqb _ 0 c.if-class-eq0.false)
