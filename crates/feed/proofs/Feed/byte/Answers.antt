-- Each arm is a row of the definition, by the stage and by the events counted.
-- Assumes nothing.
use mathlib.Core.Path.{sym, ◌∙◌}
use native.Mathlib.Omega.{arith}
use Rattle.feed.proofs.Rows.{byte_heading, byte_over, byte_item, byte_stopped}
use Rattle.feed.proofs.Feed.byte.Goals as goal

pub returns-then-sum-ge-MAX_EVENTS : goal.returns-then-sum-ge-MAX_EVENTS
returns-then-sum-ge-MAX_EVENTS c = c.stopped.ensures ∙ sym (byte_over _ _ _ c.in-Summing.is (omega (arith, c.if-sum-ge-MAX_EVENTS.true)))

pub returns-in-Heading : goal.returns-in-Heading
returns-in-Heading c = c.hold.ensures ∙ sym (byte_heading _ _ c.in-Heading.is)

pub returns-else-sum-ge-MAX_EVENTS : goal.returns-else-sum-ge-MAX_EVENTS
returns-else-sum-ge-MAX_EVENTS c =
    c.hold-in-Summing.ensures
    ∙ rw c.held_size.ensures
    (sym (byte_item _ _ _ c.in-Summing.is (omega (arith, c.if-sum-ge-MAX_EVENTS.false))))

pub returns-in-Stopped : goal.returns-in-Stopped
returns-in-Stopped c = sym (byte_stopped _ _ _ c.in-Stopped.is)
