-- Out of range where its events are not those it covers, or its summary is out of range.
-- Assumes nothing.
use mathlib.Core.Path.{sym, ◌∙◌}
use borrow.Author.Tests.{eq-eqb, ne_eqb}
use Rattle.stretch.specs.Found.{entry_found}
use Rattle.stretch.proofs.parts.entry_found.Goals as goal

pub returns-then-sum-events : goal.returns-then-sum-events
unfolding entry_found
returns-then-sum-events c = rw (← c.summary_at-sum.ensures, ne_eqb _ _ c.if-sum-events.true)

pub returns-then-not-in_range : goal.returns-then-not-in_range
unfolding entry_found
returns-then-not-in_range c = rw (← c.summary_at-sum.ensures, eq-eqb _ _ c.if-sum-events.false, sym c.in_range.ensures ∙ c.if-not-in_range.true)

pub returns : goal.returns
unfolding entry_found
returns c = rw (← c.summary_at-sum.ensures, eq-eqb _ _ c.if-sum-events.false, sym c.in_range.ensures ∙ c.if-not-in_range.false)
