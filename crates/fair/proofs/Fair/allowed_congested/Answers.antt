-- `fair::Fair::allowed_congested` meets its contract: the two branches are the two cases of the definition.
-- Assumes nothing.
use mathlib.Core.Path.{sym, ◌∙◌}
use Rattle.fair.proofs.Age.{allowedc_congested, allowedc_ramped}
use Rattle.fair.proofs.Fair.allowed_congested.Goals as goal

pub returns-then-received-eq1 : goal.returns-then-received-eq1
returns-then-received-eq1 c = let a = c.args in
    c.allowance.ensures ∙ sym (allowedc_congested a.self a.fairness c.if-received-eq1.true)

pub returns-else-received-eq1 : goal.returns-else-received-eq1
returns-else-received-eq1 c = let a = c.args in
    c.ramped.ensures ∙ sym (allowedc_ramped a.self a.fairness c.if-received-eq1.false)
