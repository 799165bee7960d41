-- What is left keeps its answer with each item that the decoder finds; an end leaves nothing, and a fault or one event too many is that answer. Behind 64 items the
-- walk has moved on.
-- Assumes nothing.
use Rattle.std.specs.Prelude.{Ok, Err}
use Rattle.std.proofs.Common.{◌≡◌, ℕ, ◌+◌, ◌-◌, ◌*◌, ◌<◌, ◌≤◌, sym, refl, ap, ◌∙◌, arith}
use borrow.Author.Rules.{rules}
use Rattle.decide.specs.declared.refusal.Refusal.{Refusal}
use Rattle.decide.proofs.Cases.{by_cases}
use Rattle.decide.specs.Test.{Holds}
use Rattle.shaper.specs.declared.Limits.{Limits}
use Rattle.shaper.specs.Limits.{limits_ok, most_amount, most_events}
use Rattle.tally.specs.Tally.{step_of}
use Rattle.tally.proofs.Laws.{within_more}
use Rattle.tally.proofs.Applied.{step_steady}
use Rattle.record.proofs.Steps.{stood_within, end_within, stood_bound}
use Rattle.account.proofs.Rest.{rest_faulty}
use Rattle.account.proofs.Passed.{rise_max, passed_found}
use Rattle.account.proofs.walk.Invariants.{done_of}
use Rattle.account.proofs.walk.Goals.{else-loop-test, then-loop-test+in_ok-item+in-None}
use Rattle.account.proofs.walk.Goals as goal

low_high : (l : Limits) → Holds (limits_ok l) → l.lo ≤ l.hi
low_high l ok = omega arith

pub overflow_sub-rise : goal.overflow_sub-rise
overflow_sub-rise c = low_high _ c.requires.1.sound.0

pub loop-init : goal.loop-init
loop-init c =
    let p = c.requires in
    let a = c.args in
    let none : done_of a.far a.budget a.budget ≡ a.far.n = omega arith in
    (rw none p.1, p.2, omega arith, p.3, omega arith, omega (arith, p.0), p.0, rw none refl)

pub returns-in_err-item : goal.returns-in_err-item
returns-in_err-item c =
    let L = c.loop in
    let a = c.args in
    let r = c.in_err-item.field-0.0 in
    let e : c.from_residual.result ≡ Err r = search rules in
    rw e (sym (rest_faulty a.runs Refusal.TooMany a.limits L.left (done_of a.far a.budget L.left) L.t a.s.now L.at r refl (sym c.event_within.ensures ∙ c.in_err-item.was)) ∙ L.invariant.7)

-- below, `s`: the item that was found stands at its place, and for no more events than may come
pub brought-requires : goal.brought-requires
brought-requires c =
    let L = c.loop in
    let a = c.args in
    let bytes = λ (j : ℕ). (c.type_inv.s j).fits in
    let s = stood_within a.runs Refusal.TooMany L.left a.limits.mtu a.s.now L.at _ _ _ _ (sym c.event_within.ensures ∙ c.in_ok-item.was ∙ ap Ok c.in-Some.is) in
    (stood_bound a.runs a.limits.mtu a.s.now L.at _ _ _ _ bytes s.0, omega (arith, L.invariant.2, L.invariant.3, s.1))

pub stepped-t-requires : goal.stepped-t-requires
stepped-t-requires c =
    let L = c.loop in
    let a = c.args in
    let n = done_of a.far a.budget L.left in
    (within_more n most_events L.t L.invariant.0.few L.invariant.0.within, rise_max a.limits n L.t L.invariant.0, c.brought.ensures.1)

pub overflow_sub-left : goal.overflow_sub-left
overflow_sub-left c =
    let L = c.loop in
    let a = c.args in
    let s = stood_within a.runs Refusal.TooMany L.left a.limits.mtu a.s.now L.at _ _ _ _ (sym c.event_within.ensures ∙ c.in_ok-item.was ∙ ap Ok c.in-Some.is) in
    s.1

pub loop-preserved : goal.loop-preserved
loop-preserved c =
    let L = c.loop in
    let a = c.args in
    let bytes = λ (j : ℕ). (c.type_inv.s j).fits in
    let f = c.in-Some.item in
    let s = stood_within a.runs Refusal.TooMany L.left a.limits.mtu a.s.now L.at _ _ _ _ (sym c.event_within.ensures ∙ c.in_ok-item.was ∙ ap Ok c.in-Some.is) in
    let i = L.invariant in
    let n = done_of a.far a.budget L.left in
    let few : n + f.count ≤ most_events = omega (arith, i.2, i.3, s.1) in
    let more : done_of a.far a.budget (L.left - f.count) ≡ n + f.count = omega (arith, i.2, s.1) in
    let p = passed_found a.runs a.limits a.s.now L.at n L.t i.0 bytes _ _ _ _ s.0 few in
    let left : L.left - f.count + f.count ≡ L.left = omega (arith, s.1) in
    let size : f.count * f.number ≤ most_amount * most_events = rw c.brought.ensures.0 at c.brought.ensures.1 in
    let alone : f.kind ≡ 3 → f.count * f.number ≤ most_amount = λ e. by_cases s.0.alone (λ one. rw one (omega (arith, stood_bound a.runs a.limits.mtu a.s.now L.at _ _ _ _ bytes s.0))) (λ tick. absurd (omega arith)) in
    let steady = step_steady (a.limits.hi - a.limits.lo) f.kind (f.count * f.number) L.t alone (omega (arith, i.0.within.level_min, i.0.few, size)) i.0.within.peak_min i.1 in
    let q : c.stepped-t.result ≡ step_of (a.limits.hi - a.limits.lo) f.kind (f.count * f.number) L.t =
    rw (← c.brought.ensures.0) c.stepped-t.ensures in
    (rw (more, q) p.ready, rw q steady, omega (arith, i.2, s.1), i.3, omega (arith, i.4, s.0.further), s.0.fits, i.6, rw (more, q) (sym (rw left at (p.same 9 (L.left - f.count))) ∙ i.7))

pub overflow_sub-result : goal.overflow_sub-result
overflow_sub-result c = c.loop.invariant.2

pub returns : goal.returns
returns c =
    let L = c.loop in
    let i = L.invariant in
    let a = c.args in
    let left : a.far.n + a.budget - done_of a.far a.budget L.left ≡ L.left = omega (arith, i.2) in
    let further : a.far.at < L.at =
    elim c.loop-test.branch [
      | else-loop-test w ↦ omega (arith, i.4, L.auto.counter-end, w.loop-test.false)
      | then-loop-test+in_ok-item+in-None w ↦
          omega (arith, i.6, end_within a.runs Refusal.TooMany L.left a.limits.mtu a.s.now L.at (sym w.event_within.ensures ∙ w.in_ok-item.was ∙ ap Ok w.in-None.is))
    ] in
    record {
      further = further;
      within = i.5;
      few = omega (arith, i.2);
      ready = i.0;
      steady = i.1;
      same = rw left i.7;
    }
