-- By whether there is an event.
-- Assumes nothing.
use borrow.Author.Tests.{eq-eqb, ne_eqb}
use Rattle.index.specs.Tree.{blocks_of, index_length}
use Rattle.index.proofs.bytes_of.Goals as goal

pub returns-then-n-eq0 : goal.returns-then-n-eq0
unfolding index_length
returns-then-n-eq0 c = rw (eq-eqb _ _ c.if-n-eq0.true)

pub returns : goal.returns
unfolding index_length blocks_of
returns c = rw (ne_eqb _ _ c.if-n-eq0.false)
