-- Each arm sets its queue.
-- Assumes nothing.
use Rattle.flow.proofs.Flow.with_queue.Goals as goal

pub returns-in-Control : goal.returns-in-Control
returns-in-Control c = rw c.in-Control.is

pub returns-in-Primary : goal.returns-in-Primary
returns-in-Primary c = rw c.in-Primary.is

pub returns-in-Secondary : goal.returns-in-Secondary
returns-in-Secondary c = rw c.in-Secondary.is
