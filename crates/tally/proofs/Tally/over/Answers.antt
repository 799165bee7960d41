-- The loop keeps: sums that do not wrap, and that the parts so far are applied.
-- Assumes nothing.
use Prim.Native.Nat.{◌+◌}
use mathlib.Core.Path.{◌≡◌, refl}
use native.Mathlib.Omega.{arith}
use lib.Dec.{leb}
use lib.ListN.{get_or}
use Rattle.tally.specs.Part.{lane_of}
use Rattle.tally.proofs.Cases.{count_max}
use Rattle.tally.proofs.Applied.{Gone, gone_none, gone_more}
use Rattle.tally.proofs.Tally.over.Goals as goal

pub loop-i-init : goal.loop-i-init
loop-i-init c = (omega arith, omega arith, omega arith, omega arith, omega arith, gone_none c.args.rise c.args.self (lane_of c.args.parts) (omega arith) (omega arith))

pub overflow_add-there : goal.overflow_add-there
overflow_add-there c =
    let L = c.loop-i in
    let fit = c.requires.1.lows L.i c.loop-i-test.true in
    omega arith

pub overflow_add-late : goal.overflow_add-late
overflow_add-late c =
    let L = c.loop-i in
    let a = c.args in
    let count = count_max (leb (L.base + get_or a.parts.lows L.i 0) L.peak) in
    omega arith

pub overflow_add-base : goal.overflow_add-base
overflow_add-base c =
    let L = c.loop-i in
    let fit = c.requires.1.tops L.i c.loop-i-test.true in
    omega arith

pub overflow_cast-base : goal.overflow_cast-base
overflow_cast-base c =
    let L = c.loop-i in
    let fit = c.requires.1.levels L.i c.loop-i-test.true in
    omega arith

pub overflow_add-base-in-loop-i : goal.overflow_add-base-in-loop-i
overflow_add-base-in-loop-i c =
    let L = c.loop-i in
    let fit = c.requires.1.levels L.i c.loop-i-test.true in
    omega arith

pub loop-i-preserved : goal.loop-i-preserved
loop-i-preserved c =
    let L = c.loop-i in
    let a = c.args in
    let h = c.loop-i-test.true in
    let fits = c.requires.1 in
    let level = fits.levels L.i h in
    let top = fits.tops L.i h in
    let count = count_max (leb (L.base + get_or a.parts.lows L.i 0) L.peak) in
    let peak = c.larger-peak.ensures in
    let low = c.lesser-low.ensures in (
      omega arith,
      omega arith,
      omega arith,
      omega arith,
      omega arith,
      rw (peak, low) (gone_more a.rise a.self (lane_of a.parts) L.i L.base L.peak L.low L.late L.invariant.5 (omega arith)),
    )

pub returns : goal.returns
returns c =
    let L = c.loop-i in
    let a = c.args in
    let all : L.i ≡ 8 = omega arith in
    let g : Gone a.rise a.self (lane_of a.parts) 8 L.base L.peak L.low L.late = rw all at L.invariant.5 in
    rw (c.less-gained.ensures, c.bar.ensures, g.level_is, g.peak_is, g.low_is) refl
