-- What is left, and what was counted, come to the same at each item; a fault, a place within no item or one event too many is one more than there may be.
-- Assumes nothing.
use Prim.Native.Nat.{ℕ, suc, ◌+◌, ◌-◌, ◌≤◌, ◌<◌}
use mathlib.Core.Path.{◌≡◌}
use native.Mathlib.Omega.{arith}
use mathlib.Core.List.{List}
use Rattle.excerpt.specs.declared.Shape.{Shape}
use Rattle.excerpt.specs.Last.{events_left, shape_of}
use Rattle.excerpt.proofs.Faults.{fault_early}
use Rattle.excerpt.proofs.Parts.{placed}
use Rattle.excerpt.proofs.Last.{Whole, shape_facts, shape_gone, left_end, left_stops, left_item, left_past}
use Rattle.excerpt.proofs.events_left.Goals as goal

-- one more than there may be
over : {left most found all : ℕ} → found ≡ suc left → left ≤ most → found + (most - left) ≡ all → most + 1 ≡ all
over e few same = omega arith

-- the item at the place is whole
whole : (mtu : ℕ) (xs : List ℕ) (at gone : ℕ) (item : Shape) → item ≡ shape_of mtu xs at → gone < item.count → Whole mtu xs at item.count item.next
whole mtu xs at gone item e h =
    let more : gone < (shape_of mtu xs at).count = rw e at h in
    rw e (shape_facts mtu xs at gone more)

pub loop-at-init : goal.loop-at-init
loop-at-init c = (omega arith, c.requires, omega arith)

pub returns-then-at-lt-HEADER : goal.returns-then-at-lt-HEADER
returns-then-at-lt-HEADER c =
    let L = c.loop-at in
    let a = c.args in
    over (left_stops a.mtu a.s.now L.left (placed L.at L.gone) c.loop-at-test.true (fault_early a.mtu a.s.now (placed L.at L.gone) c.if-at-lt-HEADER.true)) L.invariant.0 L.invariant.2

pub returns-then-item-gone : goal.returns-then-item-gone
returns-then-item-gone c =
    let L = c.loop-at in
    let a = c.args in
    let few : (shape_of a.mtu a.s.now L.at).count ≤ L.gone = rw c.shape_at-item.ensures at c.if-item-gone.true in
    over (left_stops a.mtu a.s.now L.left (placed L.at L.gone) c.loop-at-test.true (shape_gone a.mtu a.s.now L.at L.gone c.if-at-lt-HEADER.false few)) L.invariant.0 L.invariant.2

pub returns-then-left-ahead : goal.returns-then-left-ahead
returns-then-left-ahead c =
    let L = c.loop-at in
    let a = c.args in
    let past = left_past a.mtu a.s.now L.at _ _ c.loop-at-test.true c.if-at-lt-HEADER.false (whole a.mtu a.s.now L.at L.gone _ c.shape_at-item.ensures c.if-item-gone.false) L.left L.gone (omega (arith, c.if-left-ahead.true, c.if-item-gone.false)) in
    over past L.invariant.0 L.invariant.2

pub loop-at-smaller : goal.loop-at-smaller
loop-at-smaller c = omega (arith, c.if-left-ahead.false, c.if-item-gone.false)

pub loop-at-preserved : goal.loop-at-preserved
loop-at-preserved c =
    let L = c.loop-at in
    let a = c.args in
    let count = c.shape_at-item.result.count in
    let ahead = count - L.gone in
    let all = left_item a.mtu a.s.now L.at _ _ c.loop-at-test.true c.if-at-lt-HEADER.false (whole a.mtu a.s.now L.at L.gone _ c.shape_at-item.ensures c.if-item-gone.false) (ahead - 1) (L.left - ahead) L.gone (omega (arith, c.if-item-gone.false)) in
    let some : suc (ahead - 1) ≡ ahead = omega (arith, c.if-item-gone.false) in
    let sum : ahead + (L.left - ahead) ≡ L.left = omega (arith, c.if-left-ahead.false) in
    let step : events_left L.left a.mtu a.s.now (placed L.at L.gone) ≡ ahead + events_left (L.left - ahead) a.mtu a.s.now (placed c.shape_at-item.result.next 0) = rw (some, sum) at all in
    (omega (arith, L.invariant.0), L.invariant.1, omega (arith, step, L.invariant.0, L.invariant.2, c.if-left-ahead.false))

pub returns : goal.returns
returns c =
    let L = c.loop-at in
    let a = c.args in
    let none = left_end a.mtu a.s.now L.left (placed L.at L.gone) c.loop-at-test.false in
    omega (arith, none, L.invariant.2)
