-- Before the last place and at it, each by its row.
-- Assumes nothing.
use mathlib.Core.Path.{sym}
use Rattle.feed.proofs.Rows.{hold_more, hold_whole}
use Rattle.feed.proofs.Feed.hold.Goals as goal

pub returns-then-held-size : goal.returns-then-held-size
returns-then-held-size c = rw c.placed-pending.ensures (sym (hold_more _ _ _ c.if-held-size.true))

pub returns : goal.returns
returns c = rw (c.next_stage-stage.ensures, c.placed-pending.ensures) (sym (hold_whole _ _ _ c.if-held-size.false))
