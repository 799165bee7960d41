-- `slots::take` meets its contract. The word of the first slot is read at its place: `slot_get`.
-- Assumes nothing.
use Prim.Native.Nat.{◌%◌}
use native.Mathlib.Omega.{arith}
use Rattle.queue.specs.Queue.{first_frame, taken}
use Rattle.slots.specs.Slots.{queue_at}
use Rattle.slots.proofs.Anew.{slot_get}
use Rattle.slots.proofs.take.Goals as goal

pub returns : goal.returns
unfolding taken first_frame
returns c =
    let a : _ = c.args in
    let at_slot = slot_get a.s.now a.at ((queue_at a.s.now a.at).head % 128) (omega arith) in
    rw (c.less-count.ensures, c.less-held.ensures, c.of-first.ensures, c.get32.ensures, c.read-q.ensures, ← at_slot) at c.write_slot.ensures
