-- `slots::run` meets its contract. The loop keeps: what it found so far, and the frames still to come, come to what all come to.
-- Assumes nothing.
use Prim.Native.Nat.{◌+◌, ◌*◌, ◌-◌, ◌≤◌}
use mathlib.Core.Path.{◌≡◌}
use mathlib.Core.Bool.{◌&&◌}
use Rattle.decide.specs.Test.{test}
use Rattle.queue.specs.Queue.{frames_from, sizes}
use Rattle.queue.specs.Range.{frames_ok}
use Rattle.wire.specs.Words.{words_at}
use Rattle.slots.proofs.run.Given as goal

abbrev pub invariant-loop-i : goal.invariant-loop-i
invariant-loop-i l =
    let words = words_at 128 l.s l.at in
    record {
      most : l.bytes ≤ l.i * 16384;
      good : (l.good && test (frames_ok l.bounds (frames_from words l.i (l.to - l.i)))) ≡ test (frames_ok l.bounds (frames_from words l.from (l.to - l.from)));
      bytes : l.bytes + sizes (frames_from words l.i (l.to - l.i)) ≡ sizes (frames_from words l.from (l.to - l.from));
    }
