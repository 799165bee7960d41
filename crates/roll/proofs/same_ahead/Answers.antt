-- Each turn compares one event more with the first; whatever the events are that stand there, n of them were found equal.
-- Assumes nothing.
use Prim.Native.Nat.{ℕ, suc, ◌+◌, ◌*◌, ◌≤◌, ◌<◌}
use mathlib.Core.Path.{◌≡◌, sym, ap, ◌∙◌}
use native.Mathlib.Omega.{arith}
use Rattle.decide.proofs.Cases.{by_cases, le_or}
use Rattle.shaper.specs.declared.Event.{Event}
use Rattle.shaper.specs.Kind.{kind_of, number_of}
use Rattle.wire.specs.Wire.{le}
use Rattle.roll.proofs.Ahead.{kind_small, fields_at, ahead_send, found_first, found_end, found_other, found_full, found_more}
use Rattle.roll.proofs.same_ahead.Goals as goal

-- an event that is no send
below_three : (head k : ℕ) → head ≡ 6 + 65536 * k → k ≤ 3 → (head ≡ 196614 → ⊥) → k < 3
below_three head k e h apart = by_cases (le_or 3 k) (λ g. absurd (apart (omega arith))) (λ g. g)

pub returns-then-head-eq-SEND : goal.returns-then-head-eq-SEND
returns-then-head-eq-SEND c e es same fit =
    let a = c.args in
    let f = fields_at a.s.now a.from e es same fit.0 in
    let k : kind_of e ≡ 3 = omega (arith, f.head, c.get32-head.ensures) in
    sym (ap suc (ahead_send 65534 e es k))

pub loop-n-init : goal.loop-n-init
loop-n-init c =
    let a = c.args in
    (omega arith, omega arith, c.get32-head.ensures, c.get16-number.ensures, c.if-head-eq-SEND.false, λ e es same fit. found_first a.s.now a.from e es same fit)

pub returns-then-s-at-lt-EVENT : goal.returns-then-s-at-lt-EVENT
returns-then-s-at-lt-EVENT c e es same fit =
    let L = c.loop-n in
    let a = c.args in
    found_end a.s.now a.from L.n L.at e es (L.invariant.5 e es same fit) c.if-s-at-lt-EVENT.true

pub returns-then-get32-head : goal.returns-then-get32-head
returns-then-get32-head c e es same fit =
    let L = c.loop-n in
    let a = c.args in
    let f = fields_at a.s.now a.from e es same fit.0 in
    found_other a.s.now a.from L.n L.at e es (L.invariant.5 e es same fit) (omega arith)
    (λ g h s. c.if-get32-head.true (c.get32.ensures ∙ h.head ∙ ap (λ (q : Event). 6 + 65536 * kind_of q) (sym s) ∙ sym (L.invariant.2 ∙ f.head)))

pub returns-then-get16-number : goal.returns-then-get16-number
returns-then-get16-number c e es same fit =
    let L = c.loop-n in
    let a = c.args in
    let f = fields_at a.s.now a.from e es same fit.0 in
    found_other a.s.now a.from L.n L.at e es (L.invariant.5 e es same fit) (omega arith)
    (λ g h s. c.if-get16-number.true (c.get16.ensures ∙ h.number ∙ ap number_of (sym s) ∙ sym (L.invariant.3 ∙ f.number)))

pub loop-n-preserved : goal.loop-n-preserved
loop-n-preserved c =
    let L = c.loop-n in
    let a = c.args in (
      omega arith,
      omega arith,
      L.invariant.2,
      L.invariant.3,
      L.invariant.4,
      λ e es same fit. let f = fields_at a.s.now a.from e es same fit.0 in
          let head : le 4 a.s.now L.at ≡ 6 + 65536 * kind_of e = sym c.get32.ensures ∙ omega (arith, c.if-get32-head.false) ∙ L.invariant.2 ∙ f.head in
          let number : le 2 a.s.now (L.at + 4) ≡ number_of e = sym c.get16.ensures ∙ omega (arith, c.if-get16-number.false) ∙ L.invariant.3 ∙ f.number in
          let small = kind_small e in
          let apart = L.invariant.4 in
          let tick : kind_of e < 3 = below_three _ (kind_of e) (L.invariant.2 ∙ f.head) small.1 apart in
          found_more a.s.now a.from L.n L.at e es (L.invariant.5 e es same fit) (omega arith) (omega arith) tick head number,
    )

pub returns : goal.returns
returns c e es same fit =
    let L = c.loop-n in
    let a = c.args in
    let all : 65535 ≡ L.n = omega (arith, L.auto.n-end) in
    all ∙ found_full a.s.now a.from L.n L.at e es (L.invariant.5 e es same fit) (omega arith)
