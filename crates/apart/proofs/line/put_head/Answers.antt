-- Words and a number, and a colon behind them: `filled_more`.
-- Assumes nothing.
use native.Mathlib.Omega.{arith}
use lib.ListN.{length-append}
use Rattle.report.specs.Text.{ascii}
use Rattle.report.proofs.Filled.{filled_more}
use Rattle.apart.specs.Text.{named}
use Rattle.apart.proofs.line.put_head.Goals as goal

pub put_named-end-requires : goal.put_named-end-requires
put_named-end-requires c =
    let a = c.args in
    omega (arith, length-append (named a.words.now a.n) (ascii ": "))

pub put_words-requires : goal.put_words-requires
put_words-requires c =
    let a = c.args in
    omega (arith, length-append (named a.words.now a.n) (ascii ": "))

pub returns : goal.returns
returns c =
    let a = c.args in
    let l = length-append (named a.words.now a.n) (ascii ": ") in
    let f = filled_more _ _ _ _ _ _ _ _ (c.put_named-end.ensures.value, c.put_named-end.ensures.s_after) (c.put_words.ensures.value, c.put_words.ensures.s_after) (omega arith) in
    record { value = f.0; s_after = f.1 }
