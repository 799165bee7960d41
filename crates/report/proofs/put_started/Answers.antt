-- The counts, and the last line's start behind them: `filled_more`.
-- Assumes nothing.
use native.Mathlib.Omega.{arith}
use Rattle.report.specs.Report.{started_text}
use Rattle.report.proofs.Lengths.{length_started}
use Rattle.report.proofs.Filled.{filled_more}
use Rattle.report.proofs.put_started.Goals as goal

pub put_counts-start-requires : goal.put_counts-start-requires
put_counts-start-requires c = omega (arith, length_started c.args.summary)

pub put_words-lo-requires : goal.put_words-lo-requires
put_words-lo-requires c = omega (arith, length_started c.args.summary)

pub put_numeral-requires : goal.put_numeral-requires
put_numeral-requires c = omega (arith, length_started c.args.summary)

pub returns : goal.returns
unfolding started_text
returns c =
    let l = length_started c.args.summary in
    let a = c.put_counts-start.ensures in
    let b = c.put_words-lo.ensures in
    let d = c.put_numeral.ensures in
    let f = filled_more _ _ _ _ _ _ _ _ (a.value, a.s_after)
    (filled_more _ _ _ _ _ _ _ _ (b.value, b.s_after) (d.value, d.s_after) (omega arith))
    (omega arith) in
    record { value = f.0; s_after = f.1 }
