-- By whether they are too many.
-- Assumes nothing.
use borrow.Author.Tests.{lt-leb, le-leb}
use Rattle.shaper.specs.Limits.{most_events}
use Rattle.index.specs.Index.{length_answer}
use Rattle.index.proofs.length.Goals as goal

pub returns-then-events : goal.returns-then-events
unfolding length_answer
returns-then-events c = rw (lt-leb c.args.events most_events c.if-events.true)

pub returns : goal.returns
unfolding length_answer
returns c = rw (le-leb c.args.events most_events c.if-events.false, c.bytes_of.ensures)
