-- Five lines, one behind the other: `filled_more`.
-- Assumes nothing.
use native.Mathlib.Omega.{arith}
use Rattle.report.specs.Report.{counts_text}
use Rattle.report.proofs.Lengths.{length_counts}
use Rattle.report.proofs.Filled.{filled_more, length_line}
use Rattle.report.proofs.put_counts.Goals as goal

pub put_line-accrued-requires : goal.put_line-accrued-requires
put_line-accrued-requires c = simp length_line (omega (arith, length_counts c.args.summary))

pub put_line-sent-requires : goal.put_line-sent-requires
put_line-sent-requires c =
    simp length_line (omega (arith, length_counts c.args.summary, c.requires, simp length_line at c.put_line-accrued.ensures.value))

pub put_line-ceiling-requires : goal.put_line-ceiling-requires
put_line-ceiling-requires c =
    simp length_line
    (omega (
      arith,
      length_counts c.args.summary,
      c.requires,
      simp length_line at c.put_line-accrued.ensures.value,
      simp length_line at c.put_line-sent.ensures.value,
    ))

pub put_ceiling-need-requires : goal.put_ceiling-need-requires
put_ceiling-need-requires c =
    omega (
      arith,
      length_counts c.args.summary,
      c.requires,
      simp length_line at c.put_line-accrued.ensures.value,
      simp length_line at c.put_line-sent.ensures.value,
      simp length_line at c.put_line-ceiling.ensures.value,
    )

pub put_line-requires : goal.put_line-requires
put_line-requires c =
    simp length_line
    (omega (
      arith,
      length_counts c.args.summary,
      c.requires,
      simp length_line at c.put_line-accrued.ensures.value,
      simp length_line at c.put_line-sent.ensures.value,
      simp length_line at c.put_line-ceiling.ensures.value,
      c.put_ceiling-need.ensures.value,
    ))

pub returns : goal.returns
unfolding counts_text
returns c =
    let l = length_counts c.args.summary in
    let a = c.put_line-accrued.ensures in
    let b = c.put_line-sent.ensures in
    let d = c.put_line-ceiling.ensures in
    let e = c.put_ceiling-need.ensures in
    let h = c.put_line.ensures in
    let p1 = simp length_line at a.value in
    let p2 = simp length_line at b.value in
    let p3 = simp length_line at d.value in
    let p4 = e.value in
    let p5 = simp length_line at h.value in
    let two = filled_more _ _ _ _ _ _ _ _ (a.value, a.s_after) (b.value, b.s_after) (omega (arith, l, c.requires, p1, p2)) in
    let three = filled_more _ _ _ _ _ _ _ _ two (d.value, d.s_after) (omega (arith, l, c.requires, p1, p2, p3)) in
    let four = filled_more _ _ _ _ _ _ _ _ three (e.value, e.s_after) (omega (arith, l, c.requires, p1, p2, p3, p4)) in
    let f = filled_more _ _ _ _ _ _ _ _ four (h.value, h.s_after) (omega (arith, l, c.requires, p1, p2, p3, p4, p5)) in
    record { value = f.0; s_after = f.1 }
