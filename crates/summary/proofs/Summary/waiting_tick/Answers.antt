-- One row decides: an amount of 16 bits is in range.
-- Assumes nothing.
use mathlib.Core.Path.{sym, ◌∙◌}
use native.Mathlib.Omega.{arith}
use Rattle.decide.specs.Test.{◌≤?◌, passes}
use Rattle.shaper.specs.Limits.{most_amount}
use Rattle.summary.proofs.Rows.{single_1, single_made}
use Rattle.summary.proofs.Summary.waiting_tick.Goals as goal

pub returns-then-not-in_range : goal.returns-then-not-in_range
returns-then-not-in_range c = sym (single_1 _ _ (sym c.in_range.ensures ∙ c.if-not-in_range.true))

pub returns : goal.returns
returns c =
    rw c.ticks.ensures
    (sym (single_made _ _ (sym c.in_range.ensures ∙ c.if-not-in_range.false) (passes (_ ≤? most_amount) (omega arith))))
