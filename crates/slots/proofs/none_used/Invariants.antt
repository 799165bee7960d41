-- The loop keeps: what it found so far, and the words still to come, are empty exactly where all are.
-- Assumes nothing.
use Prim.Native.Nat.{◌-◌}
use mathlib.Core.Bool.{◌&&◌}
use mathlib.Core.Path.{◌≡◌}
use Rattle.decide.specs.Test.{test}
use Rattle.queue.specs.Range.{empty_ok}
use Rattle.wire.specs.Words.{words_at}
use Rattle.slots.proofs.none_used.Given as goal

abbrev pub invariant-loop-i : goal.invariant-loop-i
invariant-loop-i l =
    (l.good && test (empty_ok (words_at 128 l.s l.at) l.i (128 - l.i))) ≡ test (empty_ok (words_at 128 l.s l.at) 0 128)
