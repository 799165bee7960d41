-- `slots::run` meets its contract. The loop keeps: what it found so far, and the frames still to come, come to what all come to.
-- Assumes nothing.
use Prim.Native.Nat.{◌-◌, ◌≤◌, ◌<◌}
use mathlib.Core.Path.{◌≡◌, refl, ap}
use native.Mathlib.Nat.{zero-add}
use native.Mathlib.Omega.{arith}
use Rattle.queue.specs.declared.Frame.{Frame}
use Rattle.queue.specs.Queue.{frames_from, sizes}
use Rattle.queue.proofs.Ring.{from_more, from_done}
use Rattle.wire.specs.Words.{words_at}
use Rattle.slots.proofs.Anew.{words_get}
use Rattle.slots.proofs.Runs.{good_more, good_done}
use borrow.Author.Rules.{rules}
use Rattle.slots.proofs.run.Goals as goal

pub loop-i-init : goal.loop-i-init
loop-i-init c = record { most = search rules; good = refl; bytes = zero-add _ }

pub overflow_add-bytes : goal.overflow_add-bytes
overflow_add-bytes c = let z = ap (λ (f : Frame). f.size) c.of-bytes.ensures in search rules

pub loop-i-preserved : goal.loop-i-preserved
unfolding sizes
loop-i-preserved c =
    let l = c.loop-i in
    let a = c.args in
    let p : l.i < a.to = search rules in
    let n : l.i < 128 = search rules in
    let s = words_at 128 a.s.now a.at in
    let w = words_get 128 a.s.now a.at l.i n in
    let z = ap (λ (f : Frame). f.size) c.of-bytes.ensures in
    record {
      most = search rules;
      good = rw (c.word_ok-good.ensures, c.get32-w.ensures, ← w) (good_more a.bounds s l.i a.to l.good _ l.invariant.good p n);
      bytes = omega (arith, ap sizes (from_more s l.i a.to p n), l.invariant.bytes);
    }

pub returns : goal.returns
unfolding sizes
returns c =
    let l = c.loop-i in
    let a = c.args in
    let p : a.to ≤ l.i = search rules in
    let s = words_at 128 a.s.now a.at in
    let z : l.bytes ≡ sizes (frames_from s a.from (a.to - a.from)) = omega (arith, ap sizes (from_done s l.i a.to p), l.invariant.bytes) in
    rw (good_done a.bounds s l.i a.to l.good _ l.invariant.good p, z)
