-- `slots::front` meets its contract. The word of the first slot is read at its place: `slot_get`.
-- Assumes nothing.
use Prim.Native.Nat.{◌%◌}
use native.Mathlib.Omega.{arith}
use Rattle.slots.specs.Slots.{queue_at}
use Rattle.slots.proofs.Anew.{slot_get}
use Rattle.slots.proofs.front.Goals as goal

pub returns : goal.returns
returns c =
    let a : _ = c.args in
    rw (c.get32.ensures, c.read-q.ensures, slot_get a.s.now a.at ((queue_at a.s.now a.at).head % 128) (omega arith))
