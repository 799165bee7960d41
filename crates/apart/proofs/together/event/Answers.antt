-- Each kind has its constructor; a kind that is neither 1 nor 2 is a send.
-- Assumes nothing.
use mathlib.Core.Path.{sym}
use borrow.Author.Tests.{ne_eqb}
use Rattle.shaper.specs.Kind.{event_of}
use Rattle.shaper.proofs.Kind.{event_1, event_2}
use Rattle.apart.proofs.together.event.Goals as goal

pub returns-then-kind-eq1 : goal.returns-then-kind-eq1
returns-then-kind-eq1 c = rw c.if-kind-eq1.true (sym (event_1 _))

pub returns-then-kind-eq2 : goal.returns-then-kind-eq2
returns-then-kind-eq2 c = rw c.if-kind-eq2.true (sym (event_2 _))

pub returns : goal.returns
unfolding event_of
returns c = rw (ne_eqb _ 1 c.if-kind-eq1.false, ne_eqb _ 2 c.if-kind-eq2.false)
