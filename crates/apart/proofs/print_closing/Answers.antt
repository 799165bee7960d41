-- What is filled is within the room: `filled_within`.
-- Assumes nothing.
use mathlib.Core.Path.{sym}
use lib.Seq.{length-take-le}
use Rattle.apart.proofs.Lengths.{filled_within}
use Rattle.apart.proofs.print_closing.Goals as goal

pub slice_bounds-room-end : goal.slice_bounds-room-end
slice_bounds-room-end g c = filled_within _ _ _ _ (c.closing-end.ensures.value, c.closing-end.ensures.room_after)

pub slice_bounds-write_all-end : goal.slice_bounds-write_all-end
slice_bounds-write_all-end g c = sym (length-take-le _ _ (filled_within _ _ _ _ (c.closing-end.ensures.value, c.closing-end.ensures.room_after)))
