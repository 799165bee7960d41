-- The loop keeps: what it found so far, and the words still to come, are empty exactly where all are.
-- Assumes nothing.
use Prim.Native.Nat.{ℕ, ◌<◌}
use lib.ListN.{get_or}
use Rattle.decide.specs.Test.{test, ◌≡?◌}
use Rattle.queue.proofs.Range.{each_more, each_done}
use Rattle.wire.specs.Words.{words_at}
use Rattle.slots.proofs.Anew.{words_get}
use borrow.Author.Rules.{rules}
use Rattle.slots.proofs.none_used.Goals as goal

pub loop-i-preserved : goal.loop-i-preserved
unfolding test
loop-i-preserved c =
    let l = c.loop-i in
    let a = c.args in
    let p : l.i < 128 = search rules in
    let ws = words_at 128 a.s.now a.at in
    rw (c.get32.ensures, ← words_get 128 a.s.now a.at l.i p) (each_more ws l.i p (λ (j : ℕ). get_or ws j 0 ≡? 0) l.good _ l.invariant)

pub returns : goal.returns
returns c =
    let l = c.loop-i in
    let a = c.args in
    let ws = words_at 128 a.s.now a.at in
    each_done ws l.i (search rules) (λ (j : ℕ). get_or ws j 0 ≡? 0) l.good _ l.invariant
