-- What is filled is within the room: `filled_within`.
-- Assumes nothing.
use mathlib.Core.Path.{sym, ap}
use lib.Seq.{length-take-le}
use Rattle.apart.proofs.Lengths.{filled_within}
use Rattle.apart.proofs.print_page.Goals as goal

pub slice_bounds-write_all-end : goal.slice_bounds-write_all-end
slice_bounds-write_all-end g c =
    let e = c.page-page.ensures in
    filled_within _ _ _ _ (ap (λ r. r.end) e.value, e.room_after)

pub slice_bounds-write_all-end-2 : goal.slice_bounds-write_all-end-2
slice_bounds-write_all-end-2 g c =
    let e = c.page-page.ensures in
    sym (length-take-le _ _ (filled_within _ _ _ _ (ap (λ r. r.end) e.value, e.room_after)))
