-- The line's head, an event, a comma, the other event and the end of the line: `filled_more`, four times.
-- Assumes nothing.
use native.Mathlib.Omega.{arith}
use Rattle.report.proofs.Filled.{filled_more}
use Rattle.apart.specs.Text.{both_text}
use Rattle.apart.proofs.Lengths.{length_both}
use Rattle.apart.proofs.line.put_both.Goals as goal

pub put_head-first-requires : goal.put_head-first-requires
put_head-first-requires c =
    let a = c.args in
    omega (arith, length_both a.n a.e a.f)

pub put_event-comma-requires : goal.put_event-comma-requires
put_event-comma-requires c =
    let a = c.args in
    omega (arith, length_both a.n a.e a.f)

pub put_words-second-requires : goal.put_words-second-requires
put_words-second-requires c =
    let a = c.args in
    omega (arith, length_both a.n a.e a.f)

pub put_event-end-requires : goal.put_event-end-requires
put_event-end-requires c =
    let a = c.args in
    omega (arith, length_both a.n a.e a.f)

pub put_words-requires : goal.put_words-requires
put_words-requires c =
    let a = c.args in
    omega (arith, length_both a.n a.e a.f)

pub returns : goal.returns
unfolding both_text
returns c =
    let a = c.args in
    let l = length_both a.n a.e a.f in
    let f = filled_more _ _ _ _ _ _ _ _
    (filled_more _ _ _ _ _ _ _ _
    (filled_more _ _ _ _ _ _ _ _ (filled_more _ _ _ _ _ _ _ _ (c.put_head-first.ensures.value, c.put_head-first.ensures.s_after) (c.put_event-comma.ensures.value, c.put_event-comma.ensures.s_after) (omega arith)) (c.put_words-second.ensures.value, c.put_words-second.ensures.s_after) (omega arith))
    (c.put_event-end.ensures.value, c.put_event-end.ensures.s_after)
    (omega arith))
    (c.put_words.ensures.value, c.put_words.ensures.s_after)
    (omega arith) in
    record { value = f.0; s_after = f.1 }
