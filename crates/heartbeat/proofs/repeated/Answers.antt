-- A summary outside its range is 3; of one in range the doubling answers the repeats.
-- Assumes nothing.
use mathlib.Core.Path.{sym, ap, ◌∙◌}
use native.Mathlib.Omega.{arith}
use Rattle.heartbeat.proofs.Powers.{repeated_3}
use Rattle.heartbeat.proofs.Doubling.{doubles}
use Rattle.heartbeat.specs.declared.Repeats.{Repeats}
use Rattle.heartbeat.proofs.repeated.Goals as goal

pub returns-then-not-in_range : goal.returns-then-not-in_range
returns-then-not-in_range c = sym (repeated_3 _ _ (sym c.in_range.ensures ∙ c.if-not-in_range.true))

pub returns : goal.returns
returns c =
    ap (λ (d : Repeats). d.sum) c.doubled.ensures
    ∙ doubles _ (sym c.in_range.ensures ∙ c.if-not-in_range.false) _ (omega arith)
