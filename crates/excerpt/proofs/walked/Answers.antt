-- What is left keeps its answer with each item that the decoder finds, or some of its events; an end, a fault or a place within no item is that answer.
-- Assumes nothing.
use Prim.Native.Nat.{ℕ, ◌+◌, ◌-◌, ◌*◌, ◌≤◌, ◌<◌, min}
use mathlib.Core.List.{List}
use mathlib.Core.Path.{◌≡◌, refl, sym, ap, ◌∙◌}
use native.Mathlib.Omega.{arith}
use native.Mathlib.Nat.{mul-le-mul_left}
use mathlib.Core.Bool.{Bool, true, false, cond}
use lib.Dec.{eqb}
use Rattle.std.specs.Prelude.{Some, Ok, Err}
use Rattle.decide.specs.declared.refusal.Refusal.{Refusal}
use Rattle.decide.specs.Number.{number_in, refusal_of}
use Rattle.decide.specs.Test.{Holds}
use Rattle.shaper.specs.declared.Limits.{Limits}
use Rattle.shaper.specs.Limits.{limits_ok, most_amount, most_events}
use Rattle.record.proofs.Named.{item_named}
use Rattle.record.proofs.Steps.{step_end, step_faulty, stood_bound}
use Rattle.excerpt.proofs.Faults.{standing, faulty_there, fault_gone, fault_there, item_none}
use Rattle.tally.specs.Tally.{plain_at}
use Rattle.summary.specs.Plain.{signed_from}
use Rattle.account.proofs.Passed.{rise_max}
use Rattle.tally.proofs.Laws.{within_more, start_ready}
use Rattle.excerpt.proofs.Parts.{placed, passed_late}
use Rattle.excerpt.proofs.Walk.{rest_part, part_start, part_stops, part_end, part_step, step_ready}
use Rattle.wire.specs.Wire.{Bytes}
use Rattle.tally.specs.declared.Tally.{Tally}
use Rattle.tally.specs.Tally.{start_of}
use Rattle.record.specs.Step.{item_at}
use Rattle.record.specs.Step as Step
use Rattle.excerpt.specs.declared.Place.{Place}
use Rattle.excerpt.specs.Excerpt.{Answered, summed, excerpt_of}
use Rattle.excerpt.proofs.walked.Goals as goal

low_high : (l : Limits) → Holds (limits_ok l) → l.lo ≤ l.hi
low_high l ok = omega arith

-- how many of its events are taken: one at least, and no more than it has or than are wanted
record Taken (gone many left number taken : ℕ) : Type 0 where
  some : 1 ≤ taken
  few : gone + taken ≤ many
  enough : taken ≤ left
  small : number ≤ most_amount
  brings : taken * number ≤ most_amount * most_events

taking : (gone many left number taken : ℕ) → taken ≡ min (many - gone) left → gone < many → 0 < left → left ≤ most_events → number ≤ most_amount → Taken gone many left number taken
taking gone many left number taken e there some most small =
    let enough : taken ≤ left = omega arith in
    let b = mul-le-mul_left taken small in
    record { some = omega arith; few = omega arith; enough = enough; small = small; brings = omega arith }

-- what is left has the answer of the whole
answer : (l : Limits) → Holds (limits_ok l) → (xs : List ℕ) → Bytes xs → (count : ℕ) (p : Place) (t : Tally) (e : Answered) → t ≡ start_of l.lo → e ≡ rest_part l 0 t count xs p →
    e ≡ excerpt_of l count xs p
answer l ok xs b count p t e s h = h ∙ rw s (sym (part_start l ok xs b count p))

-- the item that was found stands at its place, and so many of its events are taken
took : (mtu : ℕ) (xs : List ℕ) → Bytes xs → (at k v m next : ℕ) → item_at true mtu xs at ≡ Ok (Some (Step.placed k v m next)) →
    (gone left taken : ℕ) → taken ≡ min (m - gone) left → gone < m → 0 < left → left ≤ most_events → Taken gone m left v taken
took mtu xs b at k v m next f gone left taken e there some most =
    let s = standing mtu xs at k v m next f in
    taking gone m left v taken e there some most (stood_bound true mtu xs at k v m next b s.stood)

pub overflow_sub-rise : goal.overflow_sub-rise
overflow_sub-rise c = low_high c.args.limits c.requires.0

pub loop-left-init : goal.loop-left-init
loop-left-init c =
    let a = c.args in
    let p = c.requires in
    let none : a.count - a.count ≡ 0 = omega arith in
    (rw (none, c.start-t.ensures) (start_ready a.limits p.0), omega arith, p.1, p.2, rw none refl)

pub returns-then-many-gone : goal.returns-then-many-gone
returns-then-many-gone c =
    let L = c.loop-left in
    let a = c.args in
    let s = standing a.limits.mtu a.s.now L.at c.in-Ok-Some.item.kind c.in-Ok-Some.item.number c.in-Ok-Some.item.count c.in-Ok-Some.item.next (sym c.event_at.ensures ∙ c.in-Ok-Some.is ∙ ap Ok c.in-Ok-Some.field-0-is) in
    sym (part_stops a.limits _ L.t L.left a.s.now (placed L.at L.gone) 2 c.loop-left-test.true (omega arith)
    (fault_gone a.limits.mtu a.s.now (placed L.at L.gone) (rw s.told.count c.if-many-gone.true)))
    ∙ answer a.limits c.requires.0 a.s.now (λ j. (c.type_inv.s j).fits) a.count a.place _ _ c.start-t.ensures c.loop-left.invariant.4

pub overflow_mul-taken : goal.overflow_mul-taken
overflow_mul-taken c = record {
  fits = omega (
    arith,
    (took c.args.limits.mtu c.args.s.now (λ j. (c.type_inv.s j).fits) c.loop-left.at c.in-Ok-Some.item.kind c.in-Ok-Some.item.number c.in-Ok-Some.item.count c.in-Ok-Some.item.next (sym c.event_at.ensures ∙ c.in-Ok-Some.is ∙ ap Ok c.in-Ok-Some.field-0-is) c.loop-left.gone c.loop-left.left _ c.lesser-taken.ensures c.if-many-gone.false c.loop-left-test.true (omega (arith, c.loop-left.invariant.1, c.loop-left.invariant.2))).brings,
  );
}

pub step-t-requires : goal.step-t-requires
step-t-requires c =
    let L = c.loop-left in
    let a = c.args in
    let n = a.count - L.left in (
      within_more n most_events L.t L.invariant.0.few L.invariant.0.within,
      rise_max a.limits n L.t L.invariant.0,
      (took c.args.limits.mtu c.args.s.now (λ j. (c.type_inv.s j).fits) c.loop-left.at c.in-Ok-Some.item.kind c.in-Ok-Some.item.number c.in-Ok-Some.item.count c.in-Ok-Some.item.next (sym c.event_at.ensures ∙ c.in-Ok-Some.is ∙ ap Ok c.in-Ok-Some.field-0-is) c.loop-left.gone c.loop-left.left _ c.lesser-taken.ensures c.if-many-gone.false c.loop-left-test.true (omega (arith, c.loop-left.invariant.1, c.loop-left.invariant.2))).brings,
    )

pub overflow_sub-left : goal.overflow_sub-left
overflow_sub-left c = (took c.args.limits.mtu c.args.s.now (λ j. (c.type_inv.s j).fits) c.loop-left.at c.in-Ok-Some.item.kind c.in-Ok-Some.item.number c.in-Ok-Some.item.count c.in-Ok-Some.item.next (sym c.event_at.ensures ∙ c.in-Ok-Some.is ∙ ap Ok c.in-Ok-Some.field-0-is) c.loop-left.gone c.loop-left.left _ c.lesser-taken.ensures c.if-many-gone.false c.loop-left-test.true (omega (arith, c.loop-left.invariant.1, c.loop-left.invariant.2))).enough

pub loop-left-preserved : goal.loop-left-preserved
loop-left-preserved c =
    let L = c.loop-left in
    let a = c.args in
    let bytes = λ (j : ℕ). c.type_inv.s j in
    let f = c.in-Ok-Some.item in
    let s = standing a.limits.mtu a.s.now L.at c.in-Ok-Some.item.kind c.in-Ok-Some.item.number c.in-Ok-Some.item.count c.in-Ok-Some.item.next (sym c.event_at.ensures ∙ c.in-Ok-Some.is ∙ ap Ok c.in-Ok-Some.field-0-is) in
    let w = (took c.args.limits.mtu c.args.s.now (λ j. (c.type_inv.s j).fits) c.loop-left.at c.in-Ok-Some.item.kind c.in-Ok-Some.item.number c.in-Ok-Some.item.count c.in-Ok-Some.item.next (sym c.event_at.ensures ∙ c.in-Ok-Some.is ∙ ap Ok c.in-Ok-Some.field-0-is) c.loop-left.gone c.loop-left.left _ c.lesser-taken.ensures c.if-many-gone.false c.loop-left-test.true (omega (arith, c.loop-left.invariant.1, c.loop-left.invariant.2))) in
    let taken = c.lesser-taken.result in
    let i = L.invariant in
    let n = a.count - L.left in
    let more : a.count - (L.left - taken) ≡ n + taken = omega (arith, i.1, w.enough) in
    let ready = step_ready a.limits n L.t i.0 a.s.now (λ j. (bytes j).fits) L.at f.kind f.number f.count f.next s i.3 taken L.gone w.some w.few in
    let step = part_step a.limits n L.t i.0 a.s.now (λ j. (bytes j).fits) L.at f.kind f.number f.count f.next s i.3 taken L.gone w.some w.few L.left w.enough in (
      rw (more, c.step-t.ensures) (ready (omega (arith, i.1, i.2, w.enough))),
      omega (arith, i.1),
      i.2,
      rw c.passed-behind.ensures (passed_late L.at (L.gone + taken) f.count f.next i.3 (omega (arith, s.stood.further))),
      rw (more, c.step-t.ensures, c.passed-behind.ensures) (sym step ∙ i.4),
    )

pub returns-in-Ok-None : goal.returns-in-Ok-None
returns-in-Ok-None c =
    let L = c.loop-left in
    let a = c.args in
    let e = sym c.event_at.ensures ∙ c.in-Ok-None.is ∙ ap Ok c.in-Ok-None.field-0-is in
    let none = item_none a.limits.mtu a.s.now L.at (step_end true a.limits.mtu a.s.now L.at e) in
    sym (part_stops a.limits _ L.t L.left a.s.now (placed L.at L.gone) 2 c.loop-left-test.true (omega arith)
    (fault_there a.limits.mtu a.s.now L.at L.gone 2 L.invariant.3 none (omega arith) ∙ two (eqb L.gone 0)))
    ∙ answer a.limits c.requires.0 a.s.now (λ j. (c.type_inv.s j).fits) a.count a.place _ _ c.start-t.ensures c.loop-left.invariant.4
  where
    two : (b : Bool) → ◌≡◌ {A = ℕ} (cond b 2 2) 2
    two true = refl
    two false = refl

pub returns-in-Err : goal.returns-in-Err
returns-in-Err c =
    let L = c.loop-left in
    let a = c.args in
    let f = c.in-Err.fault in
    let e = sym c.event_at.ensures ∙ c.in-Err.is in
    let some = (step_faulty true a.limits.mtu a.s.now L.at f e).given in
    let own = faulty_there a.limits.mtu a.s.now L.at f e in
    let n = number_in f in
    let there = fault_there a.limits.mtu a.s.now L.at L.gone n L.invariant.3 own some in
    ap Err (c.refused.ensures ∙ one_of (eqb L.gone 0) f (rw e at (item_named true a.limits.mtu a.s.now L.at)))
    ∙ sym (part_stops a.limits _ L.t L.left a.s.now (placed L.at L.gone) (cond (eqb L.gone 0) n 2) c.loop-left-test.true (positive (eqb L.gone 0) n some) there)
    ∙ answer a.limits c.requires.0 a.s.now (λ j. (c.type_inv.s j).fits) a.count a.place _ _ c.start-t.ensures c.loop-left.invariant.4
  where
    positive : (b : Bool) (f : ℕ) → 0 < f → 0 < cond b f 2
    positive true f h = h
    positive false f h = omega arith

    one_of : (b : Bool) (f : Refusal) → refusal_of (number_in f) ≡ f → cond b f (refusal_of 2) ≡ refusal_of (cond b (number_in f) 2)
    one_of true f e = sym e
    one_of false f e = refl

pub ended-requires : goal.ended-requires
ended-requires c =
    let L = c.loop-left in
    let a = c.args in
    let none : a.count - L.left ≡ a.count = omega (arith, c.loop-left-test.false) in
    rw none at L.invariant.0

pub returns : goal.returns
returns c =
    let L = c.loop-left in
    let a = c.args in
    let done : L.left ≡ 0 = omega (arith, c.loop-left-test.false) in
    let none : a.count - L.left ≡ a.count = omega (arith, done) in
    let same : summed (signed_from (plain_at a.limits a.count L.t)) (placed L.at L.gone) ≡ rest_part a.limits (a.count - L.left) L.t L.left a.s.now (placed L.at L.gone) =
    rw (none, done) (sym (part_end a.limits a.count L.t (rw none at L.invariant.0) a.s.now (placed L.at L.gone))) in
    ap Ok c.ended.ensures ∙ same ∙ answer a.limits c.requires.0 a.s.now (λ j. (c.type_inv.s j).fits) a.count a.place _ _ c.start-t.ensures c.loop-left.invariant.4
