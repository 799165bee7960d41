-- The line's head, an event and the end of the line: `filled_more`, twice.
-- Assumes nothing.
use native.Mathlib.Omega.{arith}
use Rattle.report.proofs.Filled.{filled_more}
use Rattle.apart.specs.Text.{only_text}
use Rattle.apart.proofs.Lengths.{length_only}
use Rattle.apart.proofs.line.put_only.Goals as goal

pub put_head-event-requires : goal.put_head-event-requires
put_head-event-requires c =
    let a = c.args in
    omega (arith, length_only a.words.now a.n a.e)

pub put_event-end-requires : goal.put_event-end-requires
put_event-end-requires c =
    let a = c.args in
    omega (arith, length_only a.words.now a.n a.e)

pub put_words-requires : goal.put_words-requires
put_words-requires c =
    let a = c.args in
    omega (arith, length_only a.words.now a.n a.e)

pub returns : goal.returns
unfolding only_text
returns c =
    let a = c.args in
    let l = length_only a.words.now a.n a.e in
    let f = filled_more _ _ _ _ _ _ _ _
    (filled_more _ _ _ _ _ _ _ _ (c.put_head-event.ensures.value, c.put_head-event.ensures.s_after) (c.put_event-end.ensures.value, c.put_event-end.ensures.s_after) (omega arith))
    (c.put_words.ensures.value, c.put_words.ensures.s_after)
    (omega arith) in
    record { value = f.0; s_after = f.1 }
