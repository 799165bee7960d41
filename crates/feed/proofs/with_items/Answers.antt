-- The settings of a summary in range are in range. What is left of the million is what may come.
-- Assumes nothing.
use mathlib.Core.Path.{ap, ◌∙◌}
use native.Mathlib.Omega.{arith}
use Rattle.summary.specs.Answer.{join_next}
use Rattle.summary.proofs.Paper.{in_range_plain}
use Rattle.feed.specs.Feed.{with_items}
use Rattle.feed.proofs.with_items.Goals as goal

pub events-requires : goal.events-requires
events-requires c = ((in_range_plain _ c.requires).0, omega (arith, c.may_come-may.ensures))

pub returns : goal.returns
unfolding with_items
returns c = c.join_next.ensures ∙ ap (join_next c.args.sum) (rw c.may_come-may.ensures at c.events.ensures)
