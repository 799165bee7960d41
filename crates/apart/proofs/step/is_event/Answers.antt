-- The test is `good`, in its order.
-- Assumes nothing.
use Rattle.decide.specs.Test.{test}
use Rattle.apart.proofs.step.is_event.Goals as goal

pub returns : goal.returns
unfolding test
returns c = rw (← c.get16-length.ensures, ← c.get16-kind.ensures, ← c.get16-number.ensures)
