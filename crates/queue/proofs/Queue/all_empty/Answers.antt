-- The loop keeps: what it found so far, and the slots still to come, are empty exactly where all are.
-- Assumes nothing.
use Prim.Native.Nat.{ℕ}
use borrow.Author.Rules.{rules}
use lib.ListN.{get_or}
use Rattle.decide.specs.Test.{test, ◌≡?◌}
use Rattle.queue.proofs.Range.{each_more, each_done}
use Rattle.queue.proofs.Queue.all_empty.Goals as goal

pub loop-word-preserved : goal.loop-word-preserved
unfolding test
loop-word-preserved c =
    let l = c.loop-word in
    let s = c.args.self.slots in
    each_more s l.word-index (search rules) (λ (j : ℕ). get_or s j 0 ≡? 0) l.good _ l.invariant

pub returns : goal.returns
returns c =
    let s = c.args.self.slots in
    each_done s c.loop-word.word-index (search rules) (λ (j : ℕ). get_or s j 0 ≡? 0) c.loop-word.good _ c.loop-word.invariant
