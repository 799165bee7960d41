-- Words, and a number behind them: `filled_more`.
-- Assumes nothing.
use native.Mathlib.Omega.{arith}
use lib.ListN.{length-append}
use Rattle.report.specs.Text.{numeral}
use Rattle.report.proofs.Filled.{filled_more}
use Rattle.apart.proofs.line.put_named.Goals as goal

pub put_words-number-requires : goal.put_words-number-requires
put_words-number-requires c =
    let a = c.args in
    omega (arith, length-append a.words.now (numeral a.n))

pub put_numeral-requires : goal.put_numeral-requires
put_numeral-requires c =
    let a = c.args in
    omega (arith, length-append a.words.now (numeral a.n))

pub returns : goal.returns
returns c =
    let a = c.args in
    let l = length-append a.words.now (numeral a.n) in
    let f = filled_more _ _ _ _ _ _ _ _ (c.put_words-number.ensures.value, c.put_words-number.ensures.s_after) (c.put_numeral.ensures.value, c.put_numeral.ensures.s_after) (omega arith) in
    record { value = f.0; s_after = f.1 }
