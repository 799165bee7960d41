-- `slots::used` meets its contract. The loop keeps: the words counted so far, and those still to come, are all.
-- Assumes nothing.
use Prim.Native.Nat.{◌<◌}
use native.Mathlib.Nat.{zero-add}
use native.Mathlib.Omega.{arith}
use Rattle.queue.specs.Range.{used_of}
use Rattle.queue.proofs.Ring.{weigh_more, weigh_done}
use Rattle.wire.specs.Words.{words_at}
use Rattle.slots.proofs.Anew.{words_get}
use borrow.Author.Rules.{rules}
use Rattle.slots.proofs.used.Goals as goal

pub loop-i-init : goal.loop-i-init
loop-i-init c = record { most = search rules; all = zero-add _ }

pub loop-i-preserved : goal.loop-i-preserved
loop-i-preserved c =
    let l = c.loop-i in
    let a = c.args in
    let p : l.i < 128 = search rules in
    record {
      most = search rules;
      all = omega (arith, weigh_more used_of (words_at 128 a.s.now a.at) l.i p, words_get 128 a.s.now a.at l.i p, l.invariant.all);
    }

pub returns : goal.returns
returns c =
    let l = c.loop-i in
    let a = c.args in
    omega (arith, weigh_done used_of (words_at 128 a.s.now a.at) l.i (search rules), l.invariant.all)
