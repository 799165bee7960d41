-- Each refusal by its row; a million amounts of 16 bits fit 64 bits.
-- Assumes nothing.
use Prim.Native.Nat.{◌≤◌}
use mathlib.Core.Path.{sym}
use native.Mathlib.Nat.{mul-le-mul_left}
use native.Mathlib.Omega.{arith}
use Rattle.shaper.specs.Limits.{most_amount}
use Rattle.summary.proofs.Rows.{run_3, run_9, run_made}
use Rattle.summary.proofs.run.Goals as goal

pub returns-then-count-eq0 : goal.returns-then-count-eq0
returns-then-count-eq0 c = sym (run_3 _ _ _ _ c.if-count-eq0.true)

pub returns-then-count-gt-MAX_EVENTS : goal.returns-then-count-gt-MAX_EVENTS
returns-then-count-gt-MAX_EVENTS c = sym (run_9 _ _ _ _ c.if-count-gt-MAX_EVENTS.true)

pub overflow_mul-bytes : goal.overflow_mul-bytes
overflow_mul-bytes c =
    let a = c.args in
    let small : a.amount ≤ most_amount = omega arith in
    let product = mul-le-mul_left a.count small in
    record { fits = omega (arith, c.if-count-gt-MAX_EVENTS.false) }

pub returns : goal.returns
returns c =
    let a = c.args in
    rw c.ticks.ensures (sym (run_made a.limits a.ceiling a.amount a.count c.if-count-eq0.false c.if-count-gt-MAX_EVENTS.false))
