-- The loop keeps: what it found so far, and the slots still to come, are in range exactly where all are; and the sum so far, with the bytes
-- still to come, is the bytes in all slots. The turn of slot i is how far it stands behind the head.
-- Assumes nothing.
use Prim.Native.Nat.{ℕ, ◌≤◌, ◌<◌}
use mathlib.Core.Path.{◌≡◌, refl}
use mathlib.Core.Bool.{false, and_assoc}
use native.Mathlib.Nat.{zero-add}
use native.Mathlib.Omega.{arith}
use borrow.Author.Rules.{rules}
use borrow.Author.Tests.{lt-ltb, eq-eqb}
use lib.ListN.{length}
use Rattle.decide.specs.Test.{test, decided}
use Rattle.queue.specs.Range.{bytes_in, queue_ok}
use Rattle.queue.proofs.Range.{slot_at, turned, bytes_more, each_more, bytes_done, each_done}
use Rattle.queue.proofs.Queue.scan.Goals as goal

pub returns-then-head-ge128 : goal.returns-then-head-ge128
unfolding queue_ok
returns-then-head-ge128 c =
    let a = c.args in
    decided (queue_ok a.bounds a.capacity a.self) false (λ h. let k = h.1.0 in omega arith)

pub loop-word-init : goal.loop-word-init
loop-word-init c = record { turn = search rules; sum = search rules; good = refl; bytes = zero-add _ }

pub loop-word-preserved : goal.loop-word-preserved
loop-word-preserved c =
    let l = c.loop-word in
    let a = c.args in
    let q = a.self in
    let i : ℕ = l.word-index in
    let p : i < 128 = search rules in
    record {
      turn = search rules;
      sum = search rules;
      good = rw (c.slot_ok-good.ensures, turned q.head q.count i l.turn (search rules) l.invariant.turn) (each_more q.slots i p (slot_at a.bounds q.head q.count q.slots) l.good _ l.invariant.good);
      bytes = omega (arith, bytes_more q.slots i p, l.invariant.bytes);
    }

pub returns : goal.returns
unfolding queue_ok test
returns c =
    let l = c.loop-word in
    let a = c.args in
    let q = a.self in
    let i : ℕ = l.word-index in
    let p : 128 ≤ i = search rules in
    let n : length q.slots ≡ 128 = search rules in
    let e : l.sum ≡ bytes_in q.slots = omega (arith, bytes_done q.slots i p, l.invariant.bytes) in
    rw (each_done q.slots i p (slot_at a.bounds q.head q.count q.slots) l.good _ l.invariant.good, e, eq-eqb (length q.slots) 128 n, lt-ltb q.head 128 (search rules)) (simp and_assoc)
