-- Each arm is a row of the definition, by the stage and by whether bytes are held.
-- Assumes nothing.
use mathlib.Core.Path.{sym}
use native.Mathlib.Omega.{arith}
use Rattle.feed.proofs.Rows.{finish_heading, finish_whole, finish_cut, finish_stopped}
use Rattle.feed.proofs.Feed.finish.Goals as goal

pub returns-then-self-gt0 : goal.returns-then-self-gt0
returns-then-self-gt0 c = sym (finish_cut _ _ c.in-Summing.is (omega (arith, c.if-self-gt0.true)))

pub returns-in-Heading : goal.returns-in-Heading
returns-in-Heading c = sym (finish_heading _ c.in-Heading.is)

pub returns-else-self-gt0 : goal.returns-else-self-gt0
returns-else-self-gt0 c = sym (finish_whole _ _ c.in-Summing.is (omega (arith, c.if-self-gt0.false)))

pub returns-in-Stopped : goal.returns-in-Stopped
returns-in-Stopped c = sym (finish_stopped c.args.self _ c.in-Stopped.is)
