-- The first try ends behind the last six bytes that stand whole, the second where the items end; each is joined as it is.
-- Assumes nothing.
use mathlib.Core.Path.{sym, ◌∙◌}
use native.Mathlib.Omega.{arith}
use lib.Seq.{length-take-le}
use Rattle.feed.proofs.at_once.Goals as goal

pub slice_bounds-with_items-end : goal.slice_bounds-with_items-end
slice_bounds-with_items-end c = sym (length-take-le _ _ (omega arith))

pub slice_bounds-with_items-end-in-Err : goal.slice_bounds-with_items-end-in-Err
slice_bounds-with_items-end-in-Err c = sym (length-take-le _ _ c.items_end-end.ensures.1)

pub returns-in-Ok : goal.returns-in-Ok
returns-in-Ok c = record { some = omega arith; within = omega arith; same = sym c.in-Ok.is ∙ c.with_items.ensures }
