-- Each refusal by its row; the end credit by way of the natural numbers.
-- Assumes nothing.
use Rattle.std.specs.Prelude.{Ok, Some}
use mathlib.Core.Path.{sym, ap, ◌∙◌}
use Rattle.plain.proofs.Laws.{in_range_small}
use Rattle.summary.proofs.Paper.{in_range_plain, settled_plain}
use Rattle.summary.proofs.Rows.{settle_3_summary, settle_3_credit, settles, settles_not}
use Rattle.summary.proofs.Summary.settle.Goals as goal

pub returns-then-not-in_range : goal.returns-then-not-in_range
returns-then-not-in_range c = sym (settle_3_summary _ _ (sym c.in_range.ensures ∙ c.if-not-in_range.true))

pub returns-then-self-start : goal.returns-then-self-start
returns-then-self-start c = sym (settle_3_credit _ _ (sym c.in_range.ensures ∙ c.if-not-in_range.false) c.if-self-start.true)

pub returns-then-start-self : goal.returns-then-start-self
returns-then-start-self c = sym (settles_not _ _ (sym c.in_range.ensures ∙ c.if-not-in_range.false) c.if-self-start.false c.if-start-self.true)

pub end-requires : goal.end-requires
end-requires c =
    rw c.plain.ensures (in_range_small _ (in_range_plain _ (sym c.in_range.ensures ∙ c.if-not-in_range.false)), c.if-self-start.false)

pub returns : goal.returns
returns c =
    let h = (sym c.in_range.ensures ∙ c.if-not-in_range.false) in
    rw (c.end.ensures, c.plain.ensures)
    (sym (settles _ _ h c.if-self-start.false c.if-start-self.false
    ∙ ap (λ x. Ok (Some x)) (settled_plain _ _ h c.if-self-start.false c.if-start-self.false)))
