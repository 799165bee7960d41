-- Each refusal by its row, with what the tests before it told; the join by way of the natural numbers, whose sums fit.
-- Assumes nothing.
use Rattle.std.specs.Prelude.{Ok}
use mathlib.Core.Path.{sym, ap, ◌∙◌}
use native.Mathlib.Omega.{arith}
use Rattle.plain.proofs.Laws.{in_range_small}
use Rattle.summary.proofs.Paper.{in_range_plain, joined_fits, joined_plain}
use Rattle.summary.proofs.Rows.{join_3_first, join_3_second, join_10, join_9, joins}
use Rattle.summary.proofs.Summary.join.Goals as goal

-- Below, an equation of a call with its test is what each passed test told.
pub returns-then-not-in_range : goal.returns-then-not-in_range
returns-then-not-in_range c = sym (join_3_first _ _ (sym c.in_range.ensures ∙ c.if-not-in_range.true))

pub returns-then-not-in_range-2 : goal.returns-then-not-in_range-2
returns-then-not-in_range-2 c = sym (join_3_second _ _ (sym c.in_range.ensures ∙ c.if-not-in_range.false) (sym c.in_range-2.ensures ∙ c.if-not-in_range-2.true))

pub returns-then-not-same : goal.returns-then-not-same
returns-then-not-same c = sym (join_10 _ _ (sym c.in_range.ensures ∙ c.if-not-in_range.false) (sym c.in_range-2.ensures ∙ c.if-not-in_range-2.false) (sym c.same.ensures ∙ c.if-not-same.true))

pub overflow_add-self : goal.overflow_add-self
overflow_add-self c =
    let a = in_range_small _ (in_range_plain _ (sym c.in_range.ensures ∙ c.if-not-in_range.false)) in
    let b = in_range_small _ (in_range_plain _ (sym c.in_range-2.ensures ∙ c.if-not-in_range-2.false)) in
    record { fits = omega (arith, a.small_events, b.small_events) }

pub returns-then-self-other-gt-MAX_EVENTS : goal.returns-then-self-other-gt-MAX_EVENTS
returns-then-self-other-gt-MAX_EVENTS c =
    sym (join_9 _ _ (sym c.in_range.ensures ∙ c.if-not-in_range.false) (sym c.in_range-2.ensures ∙ c.if-not-in_range-2.false) (sym c.same.ensures ∙ c.if-not-same.false) c.if-self-other-gt-MAX_EVENTS.true)

pub joined-whole-requires : goal.joined-whole-requires
joined-whole-requires c = (
  rw c.plain.ensures (in_range_small _ (in_range_plain _ (sym c.in_range.ensures ∙ c.if-not-in_range.false))),
  rw c.plain-2.ensures (in_range_small _ (in_range_plain _ (sym c.in_range-2.ensures ∙ c.if-not-in_range-2.false))),
)

pub signed-requires : goal.signed-requires
signed-requires c =
    rw c.joined-whole.ensures
    (joined_fits _ _
    (rw c.plain.ensures (in_range_small _ (in_range_plain _ (sym c.in_range.ensures ∙ c.if-not-in_range.false))))
    (rw c.plain-2.ensures (in_range_small _ (in_range_plain _ (sym c.in_range-2.ensures ∙ c.if-not-in_range-2.false)))))

pub returns : goal.returns
returns c =
    let h = (sym c.in_range.ensures ∙ c.if-not-in_range.false) in
    let k = (sym c.in_range-2.ensures ∙ c.if-not-in_range-2.false) in
    let s = (sym c.same.ensures ∙ c.if-not-same.false) in
    rw (c.signed.ensures, c.joined-whole.ensures, c.plain.ensures, c.plain-2.ensures)
    (sym (joins _ _ h k s c.if-self-other-gt-MAX_EVENTS.false ∙ ap Ok (joined_plain _ _ h k s)))
