-- Each arm is a row of the definition, by the stage.
-- Assumes nothing.
use mathlib.Core.Path.{sym}
use Rattle.feed.proofs.Rows.{ends_going, ends_stopped}
use Rattle.feed.proofs.Feed.ends.Goals as goal

pub returns-in-Stopped : goal.returns-in-Stopped
returns-in-Stopped c = sym (ends_stopped _ _ c.in-Stopped.is)

pub returns-in_default : goal.returns-in_default
returns-in_default c = sym (ends_going _ c.in_default.not-Stopped)
