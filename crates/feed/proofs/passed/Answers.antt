-- An item has 6 bytes or 10 of the 14 that are kept.
-- Assumes nothing.
use mathlib.Core.Path.{sym}
use native.Mathlib.Omega.{arith}
use lib.Seq.{length-take-le}
use Rattle.feed.proofs.Rows.{size_within}
use Rattle.feed.proofs.passed.Goals as goal

pub slice_bounds-bytes-end : goal.slice_bounds-bytes-end
slice_bounds-bytes-end c = omega (arith, size_within _ _ c.held_size-end.ensures)

pub slice_bounds-event_within-end : goal.slice_bounds-event_within-end
slice_bounds-event_within-end c = sym (length-take-le _ _ (omega (arith, size_within _ _ c.held_size-end.ensures, c.well_formed.1)))
