-- `wire::write_words` meets its contract. The loop keeps: the words written so far are the first i: `write_more`.
-- Assumes nothing.
use mathlib.Core.Path.{sym, ◌∙◌}
use lib.Seq.{take_all}
use Rattle.wire.proofs.Puts.{put_nil}
use Rattle.wire.specs.Words.{words_bytes}
use Rattle.wire.proofs.Words.{write_more}
use borrow.Author.Rules.{rules}
use Rattle.wire.proofs.write_words.Goals as goal

pub loop-i-init : goal.loop-i-init
unfolding words_bytes
loop-i-init g c = sym (put_nil _ _)

pub loop-i-preserved : goal.loop-i-preserved
loop-i-preserved g c =
    let l = c.loop-i in
    let a = c.args in
    c.put32.ensures ∙ rw l.invariant (write_more a.s.now a.at a.words l.i (search rules) (search rules))

pub returns : goal.returns
returns g c = (
  c.loop-i.invariant ∙ rw (take_all c.loop-i.i c.args.words (search rules)),
  search rules,
)
