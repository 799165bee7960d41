-- `fair::allowed` meets its contract: the two branches are the two cases of the definition.
-- Assumes nothing.
use mathlib.Core.Path.{sym, ◌∙◌}
use Rattle.fair.proofs.Age.{allowed_congested, allowed_ramped}
use Rattle.fair.proofs.allowed.Goals as goal

pub returns-then-adjusted-eq1 : goal.returns-then-adjusted-eq1
returns-then-adjusted-eq1 c = let a = c.args in
    c.lesser.ensures ∙ sym (allowed_congested a.old a.fairness a.adjusted c.if-adjusted-eq1.true)

pub returns-else-adjusted-eq1 : goal.returns-else-adjusted-eq1
returns-else-adjusted-eq1 c = let a = c.args in
    c.ramped.ensures ∙ sym (allowed_ramped a.old a.fairness a.adjusted c.if-adjusted-eq1.false)
