-- A slice of another length is 2; else the outcome is packed, or the number of the refusal alone.
-- Assumes nothing.
use Rattle.std.specs.Prelude.{Some, None, Ok, Err}
use mathlib.Core.Path.{sym, ap, ◌∙◌}
use Rattle.summary.specs.Answer.{settle_of}
use Rattle.rpr.proofs.Rows.{settle_length, settle_whole}
use Rattle.rpr.proofs.rpr_settle.Goals as goal

pub returns-then-summary-ne-LENGTH : goal.returns-then-summary-ne-LENGTH
returns-then-summary-ne-LENGTH c = settle_length _ _ c.if-summary-ne-LENGTH.true

pub returns-in-Ok-Some : goal.returns-in-Ok-Some
returns-in-Ok-Some c =
    let said = c.settle.ensures ∙ ap (λ s. settle_of s c.args.start) c.read.ensures in
    c.permitted.ensures ∙ settle_whole _ _ c.if-summary-ne-LENGTH.false (Ok (Some c.in-Ok-Some.credit)) (sym (sym said ∙ c.in-Ok-Some.is ∙ ap Ok c.in-Ok-Some.field-0-is))

pub returns-in-Ok-None : goal.returns-in-Ok-None
returns-in-Ok-None c =
    let said = c.settle.ensures ∙ ap (λ s. settle_of s c.args.start) c.read.ensures in
    settle_whole _ _ c.if-summary-ne-LENGTH.false (Ok None) (sym (sym said ∙ c.in-Ok-None.is ∙ ap Ok c.in-Ok-None.field-0-is))

pub returns-in-Err : goal.returns-in-Err
returns-in-Err c =
    let said = c.settle.ensures ∙ ap (λ s. settle_of s c.args.start) c.read.ensures in
    c.number.ensures ∙ settle_whole _ _ c.if-summary-ne-LENGTH.false (Err c.in-Err.refusal) (sym c.in-Err.is ∙ said)
