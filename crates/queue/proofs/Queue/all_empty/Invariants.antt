-- The loop keeps: what it found so far, and the slots still to come, are empty exactly where all are.
-- Assumes nothing.
use Prim.Native.Nat.{◌-◌}
use mathlib.Core.Path.{◌≡◌}
use mathlib.Core.Bool.{◌&&◌}
use Rattle.decide.specs.Test.{test}
use Rattle.queue.specs.Range.{empty_ok}
use Rattle.queue.proofs.Queue.all_empty.Given as goal

abbrev pub invariant-loop-word : goal.invariant-loop-word
invariant-loop-word l =
    (l.good && test (empty_ok l.fn.self.slots l.word-index (128 - l.word-index))) ≡ test (empty_ok l.fn.self.slots 0 128)
