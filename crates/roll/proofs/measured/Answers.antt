-- What is left of the events takes what is left of the output: each turn takes an item.
-- Assumes nothing.
use Prim.Native.Nat.{◌+◌}
use mathlib.Core.Path.{sym, ap, ◌∙◌}
use native.Mathlib.Nat.{add-zero}
use native.Mathlib.Omega.{arith}
use lib.ListN.{length}
use Rattle.record.specs.Items.{items_bytes}
use Rattle.roll.specs.Rolled.{rolled}
use Rattle.roll.proofs.Moving.{rolling, rolling_long, left_start, left_end, left_some, Taken, left_next}
use Rattle.roll.proofs.measured.Goals as goal

pub loop-at-init : goal.loop-at-init
loop-at-init c =
    let a = c.args in
    let l = c.requires.limits in
    let r = rolling a.s.now l (λ j. (c.type_inv.s j).fits) c.requires.under in
    (rolling_long a.s.now l r, left_start a.s.now l r, r.shorter)

pub same_ahead-n-requires : goal.same_ahead-n-requires
same_ahead-n-requires c = let L = c.loop-at in left_some _ L.at L.total L.invariant.1 c.loop-at-test.true

pub overflow_mul-at : goal.overflow_mul-at
overflow_mul-at c =
    let L = c.loop-at in
    let a = c.args in
    let taken : Taken a.s.now L.at L.total c.same_ahead-n.result L.invariant.1.rest = left_next _ L.at L.total _ L.invariant.1 c.loop-at-test.true c.same_ahead-n.ensures in
    record { fits = omega (arith, taken.few) }

pub overflow_add-at : goal.overflow_add-at
overflow_add-at c =
    let L = c.loop-at in
    let a = c.args in
    let taken : Taken a.s.now L.at L.total c.same_ahead-n.result L.invariant.1.rest = left_next _ L.at L.total _ L.invariant.1 c.loop-at-test.true c.same_ahead-n.ensures in
    record { fits = omega (arith, taken.within) }

pub overflow_add-total : goal.overflow_add-total
overflow_add-total c =
    let L = c.loop-at in
    let a = c.args in
    let taken : Taken a.s.now L.at L.total c.same_ahead-n.result L.invariant.1.rest = left_next _ L.at L.total _ L.invariant.1 c.loop-at-test.true c.same_ahead-n.ensures in
    let L = c.loop-at in record { fits = omega (arith, taken.next.left, L.invariant.2, c.item_length-total.ensures) }

pub loop-at-smaller : goal.loop-at-smaller
loop-at-smaller c =
    let L = c.loop-at in
    let a = c.args in
    let taken : Taken a.s.now L.at L.total c.same_ahead-n.result L.invariant.1.rest = left_next _ L.at L.total _ L.invariant.1 c.loop-at-test.true c.same_ahead-n.ensures in
    let L = c.loop-at in omega (arith, taken.some, taken.within)

pub loop-at-preserved : goal.loop-at-preserved
loop-at-preserved c =
    let L = c.loop-at in
    let a = c.args in
    let taken : Taken a.s.now L.at L.total c.same_ahead-n.result L.invariant.1.rest = left_next _ L.at L.total _ L.invariant.1 c.loop-at-test.true c.same_ahead-n.ensures in
    let L = c.loop-at in
    let k = taken in
    (k.within, rw c.item_length-total.ensures k.next, L.invariant.2)

pub returns : goal.returns
unfolding rolled
returns c =
    let L = c.loop-at in
    let none = left_end _ L.at L.total L.invariant.1 (omega arith) in
    sym (add-zero L.total) ∙ ap (λ q. L.total + length (items_bytes (rolled q))) (sym none) ∙ L.invariant.1.left
