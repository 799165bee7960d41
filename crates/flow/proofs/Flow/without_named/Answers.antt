-- Origin by origin.
-- Assumes nothing.
use mathlib.Core.Path.{sym, ap, ◌∙◌}
use borrow.Author.Tests.{ne_eqb}
use Rattle.flow.specs.Leave.{without_named}
use Rattle.flow.proofs.Flow.without_named.Goals as goal

pub returns-then-origin-eq1 : goal.returns-then-origin-eq1
returns-then-origin-eq1 c = let x = c.args in c.without_first.ensures ∙ sym (ap (without_named x.self) c.if-origin-eq1.true)

pub returns-then-origin-eq2 : goal.returns-then-origin-eq2
returns-then-origin-eq2 c = let x = c.args in c.without_first-then-origin-eq2.ensures ∙ sym (ap (without_named x.self) c.if-origin-eq2.true)

pub returns-then-origin-eq3 : goal.returns-then-origin-eq3
returns-then-origin-eq3 c = let x = c.args in c.without_first-then-origin-eq3.ensures ∙ sym (ap (without_named x.self) c.if-origin-eq3.true)

pub returns : goal.returns
returns c = rw (ne_eqb _ 1 c.if-origin-eq1.false, ne_eqb _ 2 c.if-origin-eq2.false, ne_eqb _ 3 c.if-origin-eq3.false)
