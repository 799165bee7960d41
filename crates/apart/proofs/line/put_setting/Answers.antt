-- Nothing where the two are equal; else words and a number, and behind them a line: `filled_more`.
-- Assumes nothing.
use mathlib.Core.Path.{sym, ap}
use native.Mathlib.Omega.{arith}
use lib.ListN.{length, length-append}
use Rattle.wire.proofs.Puts.{put_nil}
use Rattle.report.specs.Text.{ascii, numeral, line}
use Rattle.report.proofs.Filled.{filled_more}
use Rattle.apart.specs.Text.{named}
use Rattle.apart.proofs.Rows.{setting_same, setting_other}
use Rattle.apart.proofs.line.put_setting.Goals as goal

pub returns-then-a-b : goal.returns-then-a-b
returns-then-a-b c =
    let a = c.args in
    rw (setting_same a.words.now a.a a.b c.if-a-b.true) record { value = omega arith; s_after = sym (put_nil _ _) }

pub put_named-comma-requires : goal.put_named-comma-requires
put_named-comma-requires c =
    let a = c.args in
    let e = setting_other a.words.now a.a a.b c.if-a-b.false in
    omega (arith, ap length e, length-append (named a.words.now a.a) (line (ascii ", ") (numeral a.b)))

pub put_line-requires : goal.put_line-requires
put_line-requires c =
    let a = c.args in
    let e = setting_other a.words.now a.a a.b c.if-a-b.false in
    omega (arith, ap length e, length-append (named a.words.now a.a) (line (ascii ", ") (numeral a.b)))

pub returns : goal.returns
returns c =
    let a = c.args in
    let e = setting_other a.words.now a.a a.b c.if-a-b.false in
    let l = length-append (named a.words.now a.a) (line (ascii ", ") (numeral a.b)) in
    let f = filled_more _ _ _ _ _ _ _ _ (c.put_named-comma.ensures.value, c.put_named-comma.ensures.s_after) (c.put_line.ensures.value, c.put_line.ensures.s_after) (omega (arith, ap length e)) in
    record { value = rw e f.0; s_after = rw e f.1 }
