-- Credits and stage are those that are handed over, and the queues those without the frame.
-- Assumes nothing.
use mathlib.Core.Path.{refl}
use Rattle.flow.proofs.Flow.leave.Goals as goal

pub returns : goal.returns
returns c = rw c.without_named-next.ensures refl
