-- Blocks go over to the tally as far as they have no fault, then items one by one; what is left keeps its answer.
-- Assumes nothing.
use Rattle.std.specs.Prelude.{Ok, Err}
use Rattle.std.proofs.Common.{◌≡◌, ℕ, ◌+◌, ◌-◌, ◌≤◌, Bool, List, drop, sym, ap, ◌∙◌, arith}
use borrow.Author.Rules.{rules}
use native.Mathlib.Nat.{sub-zero}
use Rattle.shaper.specs.declared.Limits.{Limits}
use Rattle.tally.specs.declared.Tally.{Tally}
use Rattle.tally.specs.Tally.{Ready}
use Rattle.tally.proofs.Laws.{start_ready}
use Rattle.tally.proofs.Applied.{start_steady}
use Rattle.account.specs.declared.Reach.{Reach}
use Rattle.account.specs.Rest.{rest_of, Blocked, Onward, Goes}
use Rattle.account.proofs.Rest.{rest_events, rest_end}
use Rattle.summary.specs.Answer.{Answer}
use Rattle.account.proofs.events.Goals as goal

-- behind the blocks stands a tally to go on with, and what is left keeps its answer
module _ (s : List ℕ) (l : Limits) (most : ℕ) (runs : Bool) (at n : ℕ) (t : Tally) (far : Reach) (b : Blocked l s at n t most far) where
  ready_far : Ready l far.n far.tally
  ready_far = rw b.counts (b.passed runs).ready

  rest_far : n ≤ most → (e : Answer) → rest_of runs 9 l (most - n) n t (drop at s) ≡ e → rest_of runs 9 l (most - far.n) far.n far.tally (drop far.at s) ≡ e
  rest_far few e h =
      let sum : most - far.n + b.count ≡ most - n = omega (arith, b.counts, b.few) in
      sym (rw (sum, ← b.counts) at ((b.passed runs).same 9 (most - far.n))) ∙ h

pub loop-limits-init : goal.loop-limits-init
loop-limits-init c =
    let a = c.args in
    let p = c.requires in
    let e = c.start-t.ensures in
    (omega arith, omega arith, p.1, rw e (start_ready a.limits p.0), rw e (start_steady a.limits p.0 (a.limits.hi - a.limits.lo)), rw (e, sub-zero a.most) (sym (rest_events a.runs a.limits a.most a.s.now p.0 (λ j. (c.type_inv.s j).fits))))

pub blocks-far-requires : goal.blocks-far-requires
blocks-far-requires c = let i = c.loop-limits.invariant in (i.0, i.3, i.4, i.1, i.2)

pub summed-requires : goal.summed-requires
summed-requires c =
    let L = c.loop-limits in
    let a = c.args in
    let i = L.invariant in
    let b = c.blocks-far.ensures in
    let far = c.blocks-far.result in
    ready_far _ a.limits a.most a.runs L.at L.n L.t far b

pub returns-then-s-far : goal.returns-then-s-far
returns-then-s-far c =
    let L = c.loop-limits in
    let a = c.args in
    let i = L.invariant in
    let b = c.blocks-far.ensures in
    let far = c.blocks-far.result in
    ap Ok c.summed.ensures
    ∙ sym (rest_end a.limits far.n far.tally (ready_far _ a.limits a.most a.runs L.at L.n L.t far b) a.runs 9 (a.most - far.n) a.s.now far.at c.if-s-far.true)
    ∙ rest_far _ a.limits a.most a.runs L.at L.n L.t far b i.1 _ i.5

pub overflow_sub-most : goal.overflow_sub-most
overflow_sub-most c = c.blocks-far.ensures.few

pub walk-requires : goal.walk-requires
walk-requires c =
    let L = c.loop-limits in
    let a = c.args in
    let i = L.invariant in
    let b = c.blocks-far.ensures in
    let far = c.blocks-far.result in
    (c.if-s-far.false, ready_far _ a.limits a.most a.runs L.at L.n L.t far b, b.steady, omega (arith, b.few, i.2))

pub returns-in_err-next : goal.returns-in_err-next
returns-in_err-next c =
    let L = c.loop-limits in
    let a = c.args in
    let i = L.invariant in
    let b = c.blocks-far.ensures in
    let far = c.blocks-far.result in
    let e : c.from_residual.result ≡ Err c.in_err-next.field-0.0 = search rules in
    let g : Goes a.runs 9 a.limits a.s.now far.at far.n far.tally (a.most - far.n) (Err c.in_err-next.field-0.0) = rw c.in_err-next.was at c.walk.ensures in
    rw e (g ∙ rest_far _ a.limits a.most a.runs L.at L.n L.t far b i.1 _ i.5)

pub loop-limits-smaller : goal.loop-limits-smaller
loop-limits-smaller c =
    let L = c.loop-limits in
    let a = c.args in
    let i = L.invariant in
    let b = c.blocks-far.ensures in
    let far = c.blocks-far.result in
    let w : Onward a.runs 9 a.limits a.s.now far.at far.n far.tally (a.most - far.n) c.in_ok-next.next = rw c.in_ok-next.was at c.walk.ensures in
    omega (arith, w.further, w.within, b.further)

pub loop-limits-preserved : goal.loop-limits-preserved
loop-limits-preserved c =
    let L = c.loop-limits in
    let a = c.args in
    let i = L.invariant in
    let b = c.blocks-far.ensures in
    let far = c.blocks-far.result in
    let w : Onward a.runs 9 a.limits a.s.now far.at far.n far.tally (a.most - far.n) c.in_ok-next.next = rw c.in_ok-next.was at c.walk.ensures in
    let all : far.n + (a.most - far.n) ≡ a.most = omega (arith, b.few) in
    (w.within, omega (arith, w.few), i.2, w.ready, w.steady, (rw all at w.same) ∙ rest_far _ a.limits a.most a.runs L.at L.n L.t far b i.1 _ i.5)
