-- The same item while events of it are left, else the next.
-- Assumes nothing.
use mathlib.Core.Path.{sym}
use Rattle.apart.proofs.Rows.{moved_within, moved_behind}
use Rattle.apart.proofs.together.moved.Goals as goal

pub returns-then-gone-count : goal.returns-then-gone-count
returns-then-gone-count c = sym (moved_within _ _ _ _ c.if-gone-count.true)

pub returns : goal.returns
returns c = sym (moved_behind _ _ _ _ c.if-gone-count.false)
