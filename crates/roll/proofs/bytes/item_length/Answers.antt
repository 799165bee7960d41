-- Each return is a row of an item's length.
-- Assumes nothing.
use mathlib.Core.Path.{sym}
use Rattle.roll.proofs.Laying.{item_one, item_more}
use Rattle.roll.proofs.bytes.item_length.Goals as goal

pub returns-then-count-eq1 : goal.returns-then-count-eq1
returns-then-count-eq1 c = sym (item_one 0 0 _ c.if-count-eq1.true).0

pub returns-else-count-eq1 : goal.returns-else-count-eq1
returns-else-count-eq1 c = sym (item_more 0 0 _ c.if-count-eq1.false).0
