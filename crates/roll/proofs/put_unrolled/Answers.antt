-- What is put from there on leaves what the whole leaves: the header first, then each turn the events of an item.
-- Assumes nothing.
use Prim.Native.Nat.{◌+◌}
use mathlib.Core.Path.{◌∙◌}
use native.Mathlib.Omega.{arith}
use lib.ListN.{drop}
use Rattle.record.specs.Read.{item_kind, item_number, item_count}
use Rattle.roll.specs.Steps.{item_bytes}
use Rattle.roll.proofs.Laying.{item_least}
use Rattle.roll.proofs.Unrolling.{unrolling, laid_start, Taken, laid_item, laid_end, room_for_header, header_kept, laid_whole}
use Rattle.roll.proofs.put_unrolled.Goals as goal

pub put_header-requires : goal.put_header-requires
put_header-requires c =
    let r = unrolling _ c.args.limits c.requires.0 in
    (r.header.in_range_lem, room_for_header _ c.args.limits r _ c.requires.1)

pub loop-at-init : goal.loop-at-init
loop-at-init c =
    let r = unrolling _ c.args.limits c.requires.0 in
    let kept = header_kept _ _ _ c.args.limits r c.requires.1 c.put_header.ensures in
    record { limits = c.args.limits; laid = laid_start _ _ c.args.limits r (rw kept c.requires.1) }

pub put_next-next-requires : goal.put_next-next-requires
put_next-next-requires c =
    let L = c.loop-at in
    let xs = c.args.s.now in
    let taken : Taken xs _ L.room L.invariant.limits L.at L.end L.invariant.laid (item_kind (drop L.at xs)) (item_number (drop L.at xs)) (item_count (drop L.at xs)) (L.at + item_bytes xs L.at) = laid_item _ _ _ _ _ _ L.invariant.laid c.loop-at-test.true in
    let k = taken in (k.within, omega (arith, k.room_for, c.loop-at.invariant.laid.size))

pub loop-at-smaller : goal.loop-at-smaller
loop-at-smaller c =
    let L = c.loop-at in
    let xs = c.args.s.now in
    let taken : Taken xs _ L.room L.invariant.limits L.at L.end L.invariant.laid (item_kind (drop L.at xs)) (item_number (drop L.at xs)) (item_count (drop L.at xs)) (L.at + item_bytes xs L.at) = laid_item _ _ _ _ _ _ L.invariant.laid c.loop-at-test.true in
    let L = c.loop-at in
    let k = taken in
    omega (arith, c.put_next-next.ensures.at_value.0, k.within, item_least c.args.s.now L.at)

pub loop-at-preserved : goal.loop-at-preserved
loop-at-preserved c =
    let L = c.loop-at in
    let xs = c.args.s.now in
    let taken : Taken xs _ L.room L.invariant.limits L.at L.end L.invariant.laid (item_kind (drop L.at xs)) (item_number (drop L.at xs)) (item_count (drop L.at xs)) (L.at + item_bytes xs L.at) = laid_item _ _ _ _ _ _ L.invariant.laid c.loop-at-test.true in
    let put = c.put_next-next.ensures in
    record { limits = c.loop-at.invariant.limits; laid = rw (put.at_value.0, put.at_value.1) (taken.after _ put.room_after) }

pub shape_of-room : goal.shape_of-room
shape_of-room c =
    let r = unrolling _ c.args.limits c.requires.0 in
    c.loop-at.invariant.laid.size ∙ header_kept _ _ _ c.args.limits r c.requires.1 c.put_header.ensures

pub returns : goal.returns
returns c =
    let L = c.loop-at in
    let r = unrolling _ c.args.limits c.requires.0 in
    laid_end _ _ _ _ _ _ L.invariant.laid (omega arith) ∙ laid_whole _ _ _ c.args.limits r c.requires.1 c.put_header.ensures
