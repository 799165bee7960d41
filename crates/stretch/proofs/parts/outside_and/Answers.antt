-- By what stands behind it.
-- Assumes nothing.
use Rattle.stretch.specs.Found.{and_found}
use Rattle.stretch.proofs.parts.outside_and.Goals as goal

pub returns-in-Nothing : goal.returns-in-Nothing
unfolding and_found
returns-in-Nothing c = rw c.in-Nothing.is

pub returns-in-Faulty : goal.returns-in-Faulty
unfolding and_found
returns-in-Faulty c = rw c.in-Faulty.is

pub returns-in-Outside : goal.returns-in-Outside
unfolding and_found
returns-in-Outside c = rw c.in-Outside.is

pub returns-in-Sum : goal.returns-in-Sum
unfolding and_found
returns-in-Sum c = rw c.in-Sum.is
