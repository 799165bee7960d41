-- What is left to put leaves what all leave: one tick put, and then the rest.
-- Assumes nothing.
use Prim.Native.Nat.{ℕ, ◌+◌, ◌-◌, ◌/◌, ◌%◌, ◌<◌}
use mathlib.Core.Path.{◌≡◌, sym, ap, ◌∙◌}
use native.Mathlib.Omega.{arith}
use Rattle.wire.specs.Wire.{put}
use Rattle.wire.proofs.Puts.{put_nil}
use Rattle.roll.specs.Steps.{repeated_fields}
use Rattle.roll.proofs.Laying.{repeated_more}
use Rattle.roll.proofs.bytes.put_ticks.Goals as goal

pub loop-init : goal.loop-init
loop-init c =
    let a = c.args in
    (omega arith, c.requires, ap (λ (n : ℕ). put a.s.now a.at (repeated_fields n (a.tick % 65536) (a.tick / 65536))) (omega arith))

pub put_event-requires : goal.put_event-requires
put_event-requires c = let L = c.loop in omega (arith, L.invariant.0, L.invariant.1, L.auto.s)

pub overflow_add-end : goal.overflow_add-end
overflow_add-end c = let L = c.loop in record { fits = omega (arith, L.invariant.0, L.invariant.1, c.well_formed) }

pub loop-preserved : goal.loop-preserved
loop-preserved c =
    let L = c.loop in
    let a = c.args in
    let left = a.count - L.counter in
    let fewer : a.count - (L.counter + 1) ≡ left - 1 = omega arith in
    let some : 0 < left = omega arith in
    (omega (arith, L.invariant.0), L.invariant.1, rw (c.put_event.ensures, fewer) (repeated_more L.s L.end left (a.tick % 65536) (a.tick / 65536) some (omega (arith, L.invariant.0, L.invariant.1, L.auto.s))) ∙ L.invariant.2)

pub returns-clause-value : goal.returns-clause-value
returns-clause-value c = let L = c.loop in omega (arith, L.invariant.0, L.auto.counter-end)

pub returns-clause-s_after : goal.returns-clause-s_after
unfolding repeated_fields
returns-clause-s_after c =
    let L = c.loop in
    let a = c.args in
    let none : a.count - L.counter ≡ 0 = omega arith in
    sym (put_nil L.s L.end) ∙ ap (λ (n : ℕ). put L.s L.end (repeated_fields n (a.tick % 65536) (a.tick / 65536))) (sym none) ∙ L.invariant.2
