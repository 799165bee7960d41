-- Each arm is a row, by the step at the place.
-- Assumes nothing.
use Rattle.std.specs.Prelude.{Ok}
use mathlib.Core.Path.{sym, ap, ◌∙◌}
use Rattle.apart.proofs.Rows.{stand_events, stand_gone, stand_ended, stand_more, stand_faulty}
use Rattle.apart.proofs.together.stand.Goals as goal

pub returns-then-gone-item : goal.returns-then-gone-item
returns-then-gone-item c =
    let e = sym c.event_at.ensures ∙ c.in-Ok-Some.is ∙ ap Ok c.in-Ok-Some.field-0-is in
    sym (stand_events _ _ _ _ _ _ _ e c.if-gone-item.true)

pub returns-then-last : goal.returns-then-last
returns-then-last c =
    let e = sym c.event_at.ensures ∙ c.in-Ok-None.is ∙ ap Ok c.in-Ok-None.field-0-is in
    sym (stand_ended _ _ _ e c.if-last.true)

pub returns-else-gone-item : goal.returns-else-gone-item
returns-else-gone-item c =
    let e = sym c.event_at.ensures ∙ c.in-Ok-Some.is ∙ ap Ok c.in-Ok-Some.field-0-is in
    sym (stand_gone _ _ _ _ _ _ _ e c.if-gone-item.false)

pub returns-else-last : goal.returns-else-last
returns-else-last c =
    let e = sym c.event_at.ensures ∙ c.in-Ok-None.is ∙ ap Ok c.in-Ok-None.field-0-is in
    sym (stand_more _ _ _ e c.if-last.false)

pub returns-in-Err : goal.returns-in-Err
returns-in-Err c = sym (stand_faulty _ _ _ _ (sym c.event_at.ensures ∙ c.in-Err.is))
