-- Three texts, one behind the other: `filled_line`.
-- Assumes nothing.
use mathlib.Core.Path.{◌≡◌}
use mir.Facts.{to_z-of_z}
use mir.Syntax.{w64}
use mir.Val.{to_z, of_z}
use native.Mathlib.Omega.{arith}
use borrow.Author.Rules.{rules}
use Rattle.report.specs.Text.{ascii, signed_numeral}
use Rattle.report.proofs.Filled.{filled_line, length_line}
use Rattle.report.proofs.put_ceiling.Goals as goal

pub put_words-number-requires : goal.put_words-number-requires
put_words-number-requires c = omega (arith, length_line (ascii "ceiling ") (signed_numeral c.args.summary.ceiling))

pub put_signed-end-requires : goal.put_signed-end-requires
put_signed-end-requires c =
    let e : to_z w64 (of_z w64 c.args.summary.ceiling) ≡ c.args.summary.ceiling = to_z-of_z {w = w64} {z = c.args.summary.ceiling} (search rules) in
    rw e (omega (arith, length_line (ascii "ceiling ") (signed_numeral c.args.summary.ceiling)))

pub put_words-requires : goal.put_words-requires
put_words-requires c =
    let e : to_z w64 (of_z w64 c.args.summary.ceiling) ≡ c.args.summary.ceiling = to_z-of_z {w = w64} {z = c.args.summary.ceiling} (search rules) in
    omega (arith, rw e at c.put_signed-end.ensures.value, length_line (ascii "ceiling ") (signed_numeral c.args.summary.ceiling))

pub returns : goal.returns
returns c =
    let e : to_z w64 (of_z w64 c.args.summary.ceiling) ≡ c.args.summary.ceiling = to_z-of_z {w = w64} {z = c.args.summary.ceiling} (search rules) in
    let a = c.put_words-number.ensures in
    let g = c.put_signed-end.ensures in
    let h = c.put_words.ensures in
    let f = filled_line _ _ _ _ _ _ _ _ _ _ (a.value, a.s_after) (rw e at g.value, rw e at g.s_after) (h.value, h.s_after) c.requires in
    record { value = f.0; s_after = f.1 }
