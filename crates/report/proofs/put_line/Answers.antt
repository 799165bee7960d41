-- Three texts, one behind the other: `filled_line`.
-- Assumes nothing.
use native.Mathlib.Omega.{arith}
use Rattle.report.specs.Text.{numeral}
use Rattle.report.proofs.Filled.{filled_line, length_line}
use Rattle.report.proofs.put_line.Goals as goal

pub put_words-number-requires : goal.put_words-number-requires
put_words-number-requires c = omega (arith, length_line c.args.words.now (numeral c.args.n))

pub put_numeral-end-requires : goal.put_numeral-end-requires
put_numeral-end-requires c = omega (arith, length_line c.args.words.now (numeral c.args.n))

pub put_words-requires : goal.put_words-requires
put_words-requires c = omega (arith, length_line c.args.words.now (numeral c.args.n))

pub returns : goal.returns
returns c =
    let e = c.put_words-number.ensures in
    let g = c.put_numeral-end.ensures in
    let h = c.put_words.ensures in
    let f = filled_line _ _ _ _ _ _ _ _ _ _ (e.value, e.s_after) (g.value, g.s_after) (h.value, h.s_after) c.requires in
    record { value = f.0; s_after = f.1 }
