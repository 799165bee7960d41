-- Each arm asks the queue that the definition names, with its capacity.
-- Assumes nothing.
use Rattle.flow.proofs.Flow.space.Goals as goal

pub returns-in-Control : goal.returns-in-Control
returns-in-Control c = rw c.in-Control.is c.space.ensures

pub returns-in-Primary : goal.returns-in-Primary
returns-in-Primary c = rw c.in-Primary.is c.space-in-Primary.ensures

pub returns-in-Secondary : goal.returns-in-Secondary
returns-in-Secondary c = rw c.in-Secondary.is c.space-in-Secondary.ensures
