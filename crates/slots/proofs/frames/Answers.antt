-- `slots::frames` meets its contract. What both runs come to is what the frames held come to: `both_found`.
-- Assumes nothing.
use Prim.Native.Nat.{◌+◌, ◌-◌}
use mathlib.Core.Path.{ap}
use native.Mathlib.Nat.{sub-zero}
use native.Mathlib.Omega.{arith}
use Rattle.queue.proofs.Ring.{sizes_most}
use Rattle.slots.specs.declared.Found.{Found}
use Rattle.wire.specs.Words.{words_at}
use Rattle.slots.proofs.Runs.{both_found}
use borrow.Author.Rules.{rules}
use Rattle.slots.proofs.frames.Goals as goal

pub overflow_add-result : goal.overflow_add-result
overflow_add-result c =
    let a : _ = c.args in
    let s = words_at 128 a.s.now a.at in
    let x = ap (λ (r : Found). r.bytes) c.run-first.ensures in
    let y = ap (λ (r : Found). r.bytes) c.run-rest.ensures in
    record { fits = omega (arith, sizes_most s a.head (c.lesser-near.result - a.head), sizes_most s 0 (a.head + a.count - c.lesser-near.result - 0), c.lesser-near.ensures) }

pub returns : goal.returns
returns c =
    let a : _ = c.args in
    rw (c.run-rest.ensures, c.run-first.ensures, sub-zero)
    (both_found (words_at 128 a.s.now a.at) a.head a.count c.lesser-near.result (search rules) (omega (arith, c.lesser-near.ensures)) a.bounds)
