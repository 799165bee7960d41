-- What is put from there on leaves what the whole leaves: the header first, then each turn an item.
-- Assumes nothing.
use Prim.Native.Nat.{◌+◌}
use mathlib.Core.Path.{sym, ◌∙◌}
use native.Mathlib.Omega.{arith}
use Rattle.shaper.specs.Kind.{kind_of, number_of}
use Rattle.roll.proofs.Laying.{word_read}
use Rattle.roll.proofs.Moving.{rolling, rolling_long, left_some, Taken, left_next, laid_start, laid_next, laid_end, laid_length, laid_whole, room_for_header, header_kept}
use Rattle.roll.proofs.put_rolled.Goals as goal

pub put_header-requires : goal.put_header-requires
put_header-requires c =
    let r = rolling _ c.args.limits (λ j. (c.type_inv.s j).fits) c.requires.0 in
    (r.settings, room_for_header _ c.args.limits r _ c.requires.1)

pub loop-at-init : goal.loop-at-init
loop-at-init c =
    let r = rolling _ c.args.limits (λ j. (c.type_inv.s j).fits) c.requires.0 in
    let kept = header_kept _ _ _ c.args.limits r c.requires.1 c.put_header.ensures in
    (rolling_long _ c.args.limits r, laid_start _ _ c.args.limits r (rw kept c.requires.1))

pub same_ahead-n-requires : goal.same_ahead-n-requires
same_ahead-n-requires c = let L = c.loop-at in left_some _ L.at L.end L.invariant.1.ahead c.loop-at-test.true

pub overflow_add-at : goal.overflow_add-at
overflow_add-at c =
    let L = c.loop-at in
    let a = c.args in
    let taken : Taken a.s.now L.at L.end c.same_ahead-n.result L.invariant.1.ahead.rest = left_next _ L.at L.end _ L.invariant.1.ahead c.loop-at-test.true c.same_ahead-n.ensures in
    omega (arith, taken.some, taken.within)

pub get32-event-requires : goal.get32-event-requires
get32-event-requires c =
    let L = c.loop-at in
    let a = c.args in
    let taken : Taken a.s.now L.at L.end c.same_ahead-n.result L.invariant.1.ahead.rest = left_next _ L.at L.end _ L.invariant.1.ahead c.loop-at-test.true c.same_ahead-n.ensures in
    omega (arith, taken.some, taken.within)

pub put_item-end-requires : goal.put_item-end-requires
put_item-end-requires c =
    let L = c.loop-at in
    let a = c.args in
    let taken : Taken a.s.now L.at L.end c.same_ahead-n.result L.invariant.1.ahead.rest = left_next _ L.at L.end _ L.invariant.1.ahead c.loop-at-test.true c.same_ahead-n.ensures in
    let L = c.loop-at in
    let k = taken in
    (omega (arith, k.next.left, L.invariant.1.fits, L.invariant.1.size), k.few)

pub overflow_mul-at : goal.overflow_mul-at
overflow_mul-at c =
    let L = c.loop-at in
    let a = c.args in
    let taken : Taken a.s.now L.at L.end c.same_ahead-n.result L.invariant.1.ahead.rest = left_next _ L.at L.end _ L.invariant.1.ahead c.loop-at-test.true c.same_ahead-n.ensures in
    omega (arith, taken.few)

pub overflow_add-at-in-loop-at : goal.overflow_add-at-in-loop-at
overflow_add-at-in-loop-at c =
    let L = c.loop-at in
    let a = c.args in
    let taken : Taken a.s.now L.at L.end c.same_ahead-n.result L.invariant.1.ahead.rest = left_next _ L.at L.end _ L.invariant.1.ahead c.loop-at-test.true c.same_ahead-n.ensures in
    omega (arith, taken.within)

pub loop-at-smaller : goal.loop-at-smaller
loop-at-smaller c =
    let L = c.loop-at in
    let a = c.args in
    let taken : Taken a.s.now L.at L.end c.same_ahead-n.result L.invariant.1.ahead.rest = left_next _ L.at L.end _ L.invariant.1.ahead c.loop-at-test.true c.same_ahead-n.ensures in
    let k = taken in omega (arith, k.some, k.within)

pub loop-at-preserved : goal.loop-at-preserved
loop-at-preserved c =
    let L = c.loop-at in
    let a = c.args in
    let taken : Taken a.s.now L.at L.end c.same_ahead-n.result L.invariant.1.ahead.rest = left_next _ L.at L.end _ L.invariant.1.ahead c.loop-at-test.true c.same_ahead-n.ensures in
    let L = c.loop-at in
    let k = taken in
    let event = word_read a.s.now (L.at + 2) (L.at + 4) _ (kind_of k.first) (number_of k.first) (λ j. (c.type_inv.s j).fits) (omega arith) c.get32-event.ensures (sym k.fields.kind) (sym k.fields.number) in
    let put = c.put_item-end.ensures in
    (k.within, rw put.value (laid_next _ _ L.room _ L.at L.end _ L.invariant.1 k (rw (event.0, event.1) at put.s_after)))

pub shape_of-room : goal.shape_of-room
shape_of-room c =
    let r = rolling _ c.args.limits (λ j. (c.type_inv.s j).fits) c.requires.0 in
    c.loop-at.invariant.1.size ∙ header_kept _ _ _ c.args.limits r c.requires.1 c.put_header.ensures

pub returns : goal.returns
returns c =
    let L = c.loop-at in
    let r = rolling _ c.args.limits (λ j. (c.type_inv.s j).fits) c.requires.0 in record {
      value = laid_length _ _ L.room L.at L.end L.invariant.1 (omega arith);
      room_after = laid_end _ _ L.room L.at L.end L.invariant.1 (omega arith)
          ∙ laid_whole _ _ _ c.args.limits r c.requires.1 c.put_header.ensures;
    }
