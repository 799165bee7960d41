-- Each arm is a row, by what stands at the place and by how many more may come.
-- Assumes nothing.
use Rattle.std.specs.Prelude.{Ok}
use mathlib.Core.Path.{sym, ap, ◌∙◌}
use native.Mathlib.Omega.{arith}
use Rattle.record.proofs.Rows.{within_stands, within_over, within_end, within_faulty, within_none}
use Rattle.record.proofs.event_within.Goals as goal

pub returns-then-left-item : goal.returns-then-left-item
returns-then-left-item c =
    let i = c.in-Ok-Some.item in
    let e = sym c.event_at.ensures ∙ c.in-Ok-Some.is ∙ ap Ok c.in-Ok-Some.field-0-is in
    sym (within_over _ _ _ _ _ _ i.kind i.number i.count i.next e c.if-left-item.true)

pub returns-then-left-eq0 : goal.returns-then-left-eq0
returns-then-left-eq0 c =
    let e = sym c.event_at.ensures ∙ c.in-Err.is in
    sym (within_none _ _ _ _ _ _ _ e c.if-left-eq0.true)

pub returns-else-left-item : goal.returns-else-left-item
returns-else-left-item c =
    let i = c.in-Ok-Some.item in
    let e = sym c.event_at.ensures ∙ c.in-Ok-Some.is ∙ ap Ok c.in-Ok-Some.field-0-is in
    sym (within_stands _ _ _ _ _ _ i.kind i.number i.count i.next e (omega arith))

pub returns-in-Ok-None : goal.returns-in-Ok-None
returns-in-Ok-None c = sym (within_end _ _ _ _ _ _ (sym c.event_at.ensures ∙ c.in-Ok-None.is ∙ ap Ok c.in-Ok-None.field-0-is))

pub returns-else-left-eq0 : goal.returns-else-left-eq0
returns-else-left-eq0 c =
    let e = sym c.event_at.ensures ∙ c.in-Err.is in
    sym (within_faulty _ _ _ _ _ _ _ e (omega (arith, c.if-left-eq0.false)))
