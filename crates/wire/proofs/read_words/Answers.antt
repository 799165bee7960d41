-- `wire::read_words` meets its contract. The loop keeps: the words read so far, and those still to come, are all: `read_more`.
-- Assumes nothing.
use Prim.Native.Nat.{ℕ}
use mathlib.Core.Path.{refl}
use native.Mathlib.Nat.{add-zero, sub-zero}
use lib.ListN.{length-set, length-replicate}
use Rattle.wire.specs.Words.{words_at}
use Rattle.wire.proofs.Words.{read_more, read_all}
use borrow.Author.Rules.{rules}
use Rattle.wire.proofs.read_words.Goals as goal

pub loop-i-init : goal.loop-i-init
loop-i-init g c = record { many = length-replicate g.row.N 0; all = rw (sub-zero, add-zero) }

pub loop-i-preserved : goal.loop-i-preserved
loop-i-preserved g c =
    let l = c.loop-i in
    let a = c.args in
    record {
      many = simp length-set l.invariant.many;
      all = rw c.get32.ensures (read_more a.s.now a.at g.row.N l.words _ l.i l.invariant.many l.invariant.all (search rules));
    }

pub returns : goal.returns
returns g c =
    let l = c.loop-i in
    let a = c.args in
    read_all a.s.now a.at g.row.N l.words _ l.i l.invariant.many l.invariant.all (search rules)
