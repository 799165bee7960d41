-- `slots::in_range` meets its contract. A queue that says to hold no frame takes the short way, by `vacant`. Another in range passes each test that returns early: `out_of_range`, `used_count`. Where all are passed the frames
-- tell: `frames_tell`. Assumes nothing.
use Prim.Native.Nat.{◌+◌}
use native.Mathlib.Omega.{arith}
use Rattle.decide.specs.Test.{test}
use Rattle.queue.specs.Queue.{frames_of}
use Rattle.queue.proofs.Range.{vacant}
use Rattle.queue.proofs.Used.{out_of_range, used_count, frames_tell}
use Rattle.slots.specs.Slots.{queue_at}
use Rattle.slots.proofs.Round.{slots_length}
use Rattle.slots.proofs.Steps.{byte_read}
use Rattle.slots.proofs.in_range.Goals as goal

pub returns-then-count-eq0 : goal.returns-then-count-eq0
unfolding queue_at test
returns-then-count-eq0 c =
    let a : _ = c.args in
    let q = queue_at a.s.now a.at in
    let count = byte_read a.s.now (a.at + 517) in
    rw (byte_read a.s.now (a.at + 516), c.none_used.ensures, c.get32-held.ensures)
    (vacant a.bounds a.capacity q (slots_length a.s.now a.at) (omega arith))

pub returns-then-head-ge128 : goal.returns-then-head-ge128
unfolding queue_at
returns-then-head-ge128 c =
    let a : _ = c.args in
    out_of_range a.bounds a.capacity (queue_at a.s.now a.at) (λ ok. omega (arith, ok.head, byte_read a.s.now (a.at + 516)))

pub returns-then-count-gt128 : goal.returns-then-count-gt128
unfolding queue_at
returns-then-count-gt128 c =
    let a : _ = c.args in
    out_of_range a.bounds a.capacity (queue_at a.s.now a.at) (λ ok. omega (arith, ok.count, byte_read a.s.now (a.at + 517)))

pub returns-then-capacity-held : goal.returns-then-capacity-held
unfolding queue_at
returns-then-capacity-held c =
    let a : _ = c.args in
    out_of_range a.bounds a.capacity (queue_at a.s.now a.at) (λ ok. omega (arith, ok.most))

pub returns-then-used-count : goal.returns-then-used-count
unfolding queue_at
returns-then-used-count c =
    let a : _ = c.args in
    out_of_range a.bounds a.capacity (queue_at a.s.now a.at) (λ ok. omega (arith, used_count a.bounds a.capacity (queue_at a.s.now a.at) ok, byte_read a.s.now (a.at + 517)))

pub returns : goal.returns
unfolding queue_at frames_of test
returns c =
    let a : _ = c.args in
    let q = queue_at a.s.now a.at in
    let head = byte_read a.s.now (a.at + 516) in
    let count = byte_read a.s.now (a.at + 517) in
    rw (c.frames-found.ensures, c.get32-held.ensures, head, count)
    (frames_tell a.bounds a.capacity q (slots_length a.s.now a.at) (omega arith) (omega arith) (omega arith) (omega arith))
