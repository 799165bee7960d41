-- `slots::used` meets its contract. The loop keeps: the words counted so far, and those still to come, are all.
-- Assumes nothing.
use Prim.Native.Nat.{◌+◌, ◌-◌, ◌≤◌}
use mathlib.Core.Path.{◌≡◌}
use Rattle.queue.specs.Range.{weighed, used_of, used_in}
use Rattle.wire.specs.Words.{words_at}
use Rattle.slots.proofs.used.Given as goal

abbrev pub invariant-loop-i : goal.invariant-loop-i
invariant-loop-i l =
    let words = words_at 128 l.s l.at in
    record { most : l.n ≤ l.i; all : l.n + weighed used_of words l.i (128 - l.i) ≡ used_in words }
