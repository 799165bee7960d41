-- The loop keeps: what it found so far, and the slots still to come, are in range exactly where all are; and the sum so far, with the bytes
-- still to come, is the bytes in all slots. The turn of slot i is how far it stands behind the head.
-- Assumes nothing.
use Prim.Native.Nat.{◌+◌, ◌*◌, ◌-◌, ◌%◌, ◌≤◌}
use mathlib.Core.Path.{◌≡◌}
use mathlib.Core.Bool.{◌&&◌}
use Rattle.decide.specs.Test.{test}
use Rattle.queue.specs.Queue.{frames_from, sizes}
use Rattle.queue.specs.Range.{slots_ok, bytes_in}
use Rattle.queue.proofs.Queue.scan.Given as goal

abbrev pub invariant-loop-word : goal.invariant-loop-word
invariant-loop-word l =
    let i = l.word-index in
    let s = l.fn.self.slots in
    record {
      turn : l.turn ≡ (128 - l.head) % 128 + i;
      sum : l.sum ≤ i * 16384;
      good : (l.good && test (slots_ok l.bounds l.head l.count s i (128 - i))) ≡ test (slots_ok l.bounds l.head l.count s 0 128);
      bytes : l.sum + sizes (frames_from s i (128 - i)) ≡ bytes_in s;
    }
