-- By what stands behind it; two summaries are joined.
-- Assumes nothing.
use mathlib.Core.Path.{sym, ◌∙◌}
use Rattle.stretch.specs.Found.{and_found}
use Rattle.stretch.proofs.parts.sum_and.Goals as goal

pub returns-in-Nothing : goal.returns-in-Nothing
unfolding and_found
returns-in-Nothing c = rw c.in-Nothing.is

pub returns-in-Faulty : goal.returns-in-Faulty
unfolding and_found
returns-in-Faulty c = rw c.in-Faulty.is

pub returns-in-Outside : goal.returns-in-Outside
unfolding and_found
returns-in-Outside c = rw c.in-Outside.is

pub returns-in-Ok : goal.returns-in-Ok
unfolding and_found
returns-in-Ok c = rw (c.in-Sum.is, sym c.join.ensures ∙ c.in-Ok.is)

pub returns-in-Err : goal.returns-in-Err
unfolding and_found
returns-in-Err c = rw (c.in-Sum.is, sym c.join.ensures ∙ c.in-Err.is)
