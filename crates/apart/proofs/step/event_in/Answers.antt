-- The event by its two fields.
-- Assumes nothing.
use Rattle.apart.proofs.step.event_in.Goals as goal

pub returns : goal.returns
returns c = cc
