-- By whether the slot is occupied: `slot_test`.
-- Assumes nothing.
use Rattle.queue.proofs.Range.{slot_test}
use Rattle.queue.proofs.slot_ok.Goals as goal

pub returns : goal.returns
returns c = rw c.word_ok.ensures (slot_test _ _ _)
