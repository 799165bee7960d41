-- Each turn goes on by 6 bytes or 10, and only where 10 are left: so the first turn does.
-- Assumes nothing.
use native.Mathlib.Omega.{arith}
use Rattle.feed.proofs.Rows.{size_within}
use Rattle.feed.proofs.items_end.Goals as goal

pub loop-at-init : goal.loop-at-init
loop-at-init c = omega arith

pub overflow_sub-chunk : goal.overflow_sub-chunk
overflow_sub-chunk c = omega arith

pub item_size-requires : goal.item_size-requires
item_size-requires c = omega arith

pub overflow_cast-at : goal.overflow_cast-at
overflow_cast-at c = omega (arith, size_within _ _ c.item_size.ensures)

pub overflow_add-at : goal.overflow_add-at
overflow_add-at c = omega (arith, size_within _ _ c.item_size.ensures)

pub loop-at-smaller : goal.loop-at-smaller
loop-at-smaller c = omega (arith, size_within _ _ c.item_size.ensures)

pub loop-at-preserved : goal.loop-at-preserved
loop-at-preserved c = omega (arith, size_within _ _ c.item_size.ensures)

pub returns : goal.returns
returns c = omega arith
