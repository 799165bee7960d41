-- The fields one by one; what the comparisons choose is the smaller low (`low_by`) and the larger top (`larger_by`).
-- Assumes nothing.
use Prim.Native.Nat.{◌+◌, ◌-◌}
use mathlib.Core.Path.{refl}
use native.Mathlib.Omega.{arith}
use Rattle.tally.proofs.Cases.{choice_max, choice_min, larger_by, low_by}
use Rattle.tally.proofs.Part.grow.Goals as goal

pub below-requires-2 : goal.below-requires-2
below-requires-2 c =
    let a = c.args in
    let m = choice_max c.below.result a.self.level 0 in
    (omega (arith, c.choose-bar.ensures), omega arith)

pub overflow_sub-cut : goal.overflow_sub-cut
overflow_sub-cut c =
    let a = c.args in
    omega (arith, choice_min a.send (a.self.level - a.v) (a.self.level + a.v), choice_max a.idle 0 a.rise)

pub below-requires-3 : goal.below-requires-3
below-requires-3 c =
    let a = c.args in
    let m = choice_max a.send (a.self.level - a.v) (a.self.level + a.v) in
    (omega arith, omega arith)

pub returns : goal.returns
returns c =
    let a = c.args in
    let p = a.self in
    let late = c.below.ensures in
    let bar = c.choose-bar.ensures in
    let less = c.below-2.ensures in
    let low = c.choose-low.ensures in
    let level = c.choose-level.ensures in
    let cut = c.choose.ensures in
    let more = c.below-3.ensures in
    let top = c.choose-top.ensures in
    rw (low, less, bar, late, top, more, level, cut, low_by a.send p.level p.top p.low, larger_by) refl
