-- None, or 40 over.
-- Assumes nothing.
use borrow.Author.Tests.{eq-eqb, ne_eqb}
use Rattle.stretch.specs.Stretch.{length_ok}
use Rattle.stretch.proofs.is_length.Goals as goal

pub returns-then-bytes-eq0 : goal.returns-then-bytes-eq0
unfolding length_ok
returns-then-bytes-eq0 c = rw (eq-eqb c.args.bytes 0 c.if-bytes-eq0.true)

pub returns : goal.returns
unfolding length_ok
returns c = rw (ne_eqb c.args.bytes 0 c.if-bytes-eq0.false)
