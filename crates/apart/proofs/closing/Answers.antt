-- Words and an answer, twice: `filled_more`. The room is large enough for both: `printed_fits`.
-- Assumes nothing.
use mathlib.Core.Path.{◌≡◌}
use native.Mathlib.Omega.{arith}
use lib.ListN.{length}
use borrow.Author.Rules.{rules}
use Rattle.report.proofs.Fits.{printed_fits}
use Rattle.report.proofs.Filled.{filled_more}
use Rattle.apart.specs.Text.{closing_text}
use Rattle.apart.proofs.Lengths.{filled_length, filled_front}
use Rattle.apart.proofs.closing.Goals as goal

pub put_answer-end-requires : goal.put_answer-end-requires
put_answer-end-requires c =
    let w = c.put_words-at.ensures in
    omega (arith, c.told-room, filled_length _ _ _ _ _ (w.value, w.s_after) (omega (arith, c.told-room, w.value)), w.value, printed_fits c.args.first (search rules))

pub put_words-at-requires-2 : goal.put_words-at-requires-2
put_words-at-requires-2 c =
    let room : length c.args.room.now ≡ 528 = search rules in
    let w = c.put_words-at.ensures in
    let a = c.put_answer-end.ensures in
    let p = printed_fits c.args.first (search rules) in
    let l = filled_length _ _ _ _ _ (w.value, w.s_after) (omega (arith, w.value)) in
    omega (arith, w.value, a.value, p, l, filled_length _ _ _ _ _ (a.value, a.s_after) (omega (arith, l, w.value, a.value, p)))

pub put_answer-requires : goal.put_answer-requires
put_answer-requires c =
    let room : length c.args.room.now ≡ 528 = search rules in
    let w = c.put_words-at.ensures in
    let a = c.put_answer-end.ensures in
    let v = c.put_words-at-2.ensures in
    let p = printed_fits c.args.first (search rules) in
    let q = printed_fits c.args.second (search rules) in
    let l = filled_length _ _ _ _ _ (w.value, w.s_after) (omega (arith, w.value)) in
    let m = filled_length _ _ _ _ _ (a.value, a.s_after) (omega (arith, l, w.value, a.value, p)) in
    omega (arith, w.value, a.value, v.value, p, q, l, m, filled_length _ _ _ _ _ (v.value, v.s_after) (omega (arith, l, m, w.value, a.value, v.value, p)))

pub returns : goal.returns
unfolding closing_text
returns c =
    let room : length c.args.room.now ≡ 528 = search rules in
    let w = c.put_words-at.ensures in
    let a = c.put_answer-end.ensures in
    let v = c.put_words-at-2.ensures in
    let b = c.put_answer.ensures in
    let p = printed_fits c.args.first (search rules) in
    let q = printed_fits c.args.second (search rules) in
    let f = filled_front _ _ _ _
    (filled_more _ _ _ _ _ _ _ _
    (filled_more _ _ _ _ _ _ _ _
    (filled_more _ _ _ _ _ _ _ _ (w.value, w.s_after) (a.value, a.s_after) (omega (arith, w.value, a.value, p)))
    (v.value, v.s_after)
    (omega (arith, w.value, a.value, v.value, p)))
    (b.value, b.s_after)
    (omega (arith, w.value, a.value, v.value, b.value, p, q))) in
    record { value = f.0; room_after = f.1 }
