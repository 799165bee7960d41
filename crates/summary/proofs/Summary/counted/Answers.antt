-- Settings first; then ticks are a run under their ceiling, and a send comes alone.
-- Assumes nothing.
use mathlib.Core.Bool.{false}
use mathlib.Core.Path.{refl, sym, ◌∙◌}
use native.Mathlib.Omega.{arith}
use Rattle.decide.specs.Test.{facts, decided}
use Rattle.decide.proofs.Cases.{by_cases}
use Rattle.shaper.specs.declared.Event.TheVariants.{Waiting, Idle, Send}
use Rattle.shaper.specs.Limits.{limits_ok}
use Rattle.shaper.proofs.Kind.{event_1, event_2}
use Rattle.plain.specs.Range.{count_ok}
use Rattle.summary.proofs.Rows.{counted_1, counted_3_count}
use Rattle.summary.proofs.Runs.{event_send, counted_run, counted_alone}
use Rattle.summary.proofs.Summary.counted.Goals as goal

pub returns-then-not-in_range : goal.returns-then-not-in_range
returns-then-not-in_range c = sym (counted_1 _ _ _ (sym c.in_range.ensures ∙ c.if-not-in_range.true))

pub returns-then-kind-eq1 : goal.returns-then-kind-eq1
returns-then-kind-eq1 c =
    let a = c.args in
    let ok = facts (limits_ok a.limits) (sym c.in_range.ensures ∙ c.if-not-in_range.false) in
    rw (c.if-kind-eq1.true, event_1) (c.run.ensures ∙ counted_run a.limits ok (Waiting a.number) (omega arith) (omega arith) a.limits.hi a.number a.count refl)

pub returns-then-kind-eq2 : goal.returns-then-kind-eq2
returns-then-kind-eq2 c =
    let a = c.args in
    let ok = facts (limits_ok a.limits) (sym c.in_range.ensures ∙ c.if-not-in_range.false) in
    rw (c.if-kind-eq2.true, event_2) (c.run-then-kind-eq2.ensures ∙ counted_run a.limits ok (Idle a.number) (omega arith) (omega arith) a.limits.lo a.number a.count refl)

pub returns-then-count-ne1 : goal.returns-then-count-ne1
returns-then-count-ne1 c =
    let a = c.args in
    rw (event_send _ _ c.if-kind-eq1.false c.if-kind-eq2.false)
    (sym (counted_3_count _ _ _ (sym c.in_range.ensures ∙ c.if-not-in_range.false) (sym (decided (count_ok (Send a.number) a.count) false (λ h. by_cases h.1 c.if-count-ne1.true (λ k. omega arith))))))

pub returns : goal.returns
returns c =
    let a = c.args in
    let ok = facts (limits_ok a.limits) (sym c.in_range.ensures ∙ c.if-not-in_range.false) in
    rw (event_send _ _ c.if-kind-eq1.false c.if-kind-eq2.false)
    (c.send.ensures ∙ counted_alone a.limits ok (Send a.number) a.count c.if-count-ne1.false)
