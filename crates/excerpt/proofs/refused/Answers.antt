-- By the test.
-- Assumes nothing.
use borrow.Author.Tests.{eq-eqb, ne_eqb}
use Rattle.excerpt.proofs.refused.Goals as goal

pub returns-then-gone-eq0 : goal.returns-then-gone-eq0
returns-then-gone-eq0 c = rw (eq-eqb _ _ c.if-gone-eq0.true)

pub returns-else-gone-eq0 : goal.returns-else-gone-eq0
returns-else-gone-eq0 c = rw (ne_eqb _ _ c.if-gone-eq0.false)
