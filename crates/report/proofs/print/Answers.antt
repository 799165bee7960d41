-- What is printed fits the room.
-- Assumes nothing.
use mathlib.Core.Path.{◌≡◌, sym, ap, ◌∙◌}
use lib.ListN.{length}
use lib.Seq.{length-take-le}
use native.Mathlib.Omega.{arith}
use borrow.Author.Rules.{rules}
use Rattle.wire.proofs.Puts.{length_put}
use Rattle.report.proofs.Fits.{printed_fits}
use Rattle.report.proofs.print.Goals as goal

pub slice_bounds-room-end : goal.slice_bounds-room-end
slice_bounds-room-end g c =
    let short = printed_fits c.args.answer (search rules) in
    let room : length c.fill-end.new.room ≡ 256 = ap length c.fill-end.ensures.room_after ∙ length_put _ _ 0 (omega arith) in
    omega (arith, short, c.fill-end.ensures.value)

pub slice_bounds-write_all-end : goal.slice_bounds-write_all-end
slice_bounds-write_all-end g c =
    let short = printed_fits c.args.answer (search rules) in
    let room : length c.fill-end.new.room ≡ 256 = ap length c.fill-end.ensures.room_after ∙ length_put _ _ 0 (omega arith) in
    sym (length-take-le _ _ (omega (arith, short, c.fill-end.ensures.value)))
