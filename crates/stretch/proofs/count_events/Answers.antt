-- Each return is a row of the count. Where the blocks before the last are capped, no place is too far and there are too many events, capped or not.
-- Assumes nothing.
use Prim.Native.Nat.{ℕ, ◌+◌, ◌*◌, ◌/◌, ◌≤◌, ◌<◌}
use mathlib.Core.Path.{◌≡◌, sym, ap, ◌∙◌}
use lib.ListN.{length}
use mathlib.Core.List.{List}
use Rattle.wire.specs.Wire.{Bytes, le}
use Rattle.excerpt.specs.declared.Place.{Place}
use Rattle.excerpt.specs.Last.{events_left}
use Rattle.index.specs.Entry.{place_in}
use Rattle.std.specs.Prelude.{Some, Ok}
use native.Mathlib.Omega.{arith}
use Rattle.stretch.specs.Stretch.{last_place, last_events}
use Rattle.stretch.proofs.Counts.{length_some, place_bound, counted_longer, counted_none, counted_few, counted_past, counted_far, counted_many, counted_events}
use Rattle.stretch.proofs.count_events.Goals as goal

-- the place and the events that the code has are those of the last block
place_is : (ix : List ℕ) (p : Place) → p ≡ place_in ix (80 * (length ix / 80)) → p ≡ last_place ix
unfolding last_place
place_is ix p e = e

left_is : (xs ix : List ℕ) (p : Place) → p ≡ place_in ix (80 * (length ix / 80)) → (mtu left : ℕ) → mtu ≡ le 2 xs 4 → left ≡ events_left 256 mtu xs p → left ≡ last_events xs ix
unfolding last_events last_place
left_is xs ix p e mtu left f g = g ∙ rw (f, e)

-- both numbers of the place have 4 bytes
place_small : (ix : List ℕ) (p : Place) (at : ℕ) → Bytes ix → p ≡ place_in ix at → (p.at < 4294967296) × (p.gone < 4294967296)
place_small ix p at b e = rw e (place_bound ix at b)

pub returns-then-s-gt-HEADER : goal.returns-then-s-gt-HEADER
returns-then-s-gt-HEADER c = let a = c.args in sym (counted_longer a.s.now a.index.now c.if-index-eq0.true c.if-s-gt-HEADER.true)

pub returns-then-index-eq0 : goal.returns-then-index-eq0
returns-then-index-eq0 c = let a = c.args in sym (counted_none a.s.now a.index.now c.if-index-eq0.true c.if-s-gt-HEADER.false)

pub place_at-place-requires : goal.place_at-place-requires
place_at-place-requires c = let h = length_some _ c.requires.1 c.if-index-eq0.false in omega arith

pub returns-then-left-eq0 : goal.returns-then-left-eq0
returns-then-left-eq0 c =
    let a = c.args in
    sym (counted_few a.s.now a.index.now c.if-index-eq0.false (sym (left_is c.args.s.now c.args.index.now _ c.place_at-place.ensures _ _ c.get16.ensures c.events_left-left.ensures) ∙ c.if-left-eq0.true))

pub returns-then-left-gt-BLOCK : goal.returns-then-left-gt-BLOCK
returns-then-left-gt-BLOCK c =
    let a = c.args in
    sym (counted_past a.s.now a.index.now c.if-index-eq0.false (omega (arith, left_is c.args.s.now c.args.index.now _ c.place_at-place.ensures _ _ c.get16.ensures c.events_left-left.ensures)))

pub overflow_mul-place : goal.overflow_mul-place
overflow_mul-place c = record { fits = omega (arith, place_small c.args.index.now _ _ (λ j. (c.type_inv.index j).fits) c.place_at-place.ensures) }

pub overflow_add-place : goal.overflow_add-place
overflow_add-place c = record { fits = omega (arith, place_small c.args.index.now _ _ (λ j. (c.type_inv.index j).fits) c.place_at-place.ensures) }

pub returns-then-before-place : goal.returns-then-before-place
returns-then-before-place c =
    let a = c.args in
    let h : 14 + 6 * (256 * (length a.index.now / 80)) < c.place_at-place.result.at + 6 * c.place_at-place.result.gone = omega (arith, place_small c.args.index.now _ _ (λ j. (c.type_inv.index j).fits) c.place_at-place.ensures, c.lesser-before.ensures, c.if-before-place.true) in
    sym (counted_far a.s.now a.index.now c.if-index-eq0.false (omega (arith, left_is c.args.s.now c.args.index.now _ c.place_at-place.ensures _ _ c.get16.ensures c.events_left-left.ensures, c.if-left-eq0.false)) (omega (arith, left_is c.args.s.now c.args.index.now _ c.place_at-place.ensures _ _ c.get16.ensures c.events_left-left.ensures, c.if-left-gt-BLOCK.false)) (rw (place_is c.args.index.now _ c.place_at-place.ensures) at h))

pub returns-then-before-left : goal.returns-then-before-left
returns-then-before-left c =
    let a = c.args in
    let h : c.place_at-place.result.at + 6 * c.place_at-place.result.gone ≤ 14 + 6 * (256 * (length a.index.now / 80)) = omega (arith, c.lesser-before.ensures, c.if-before-place.false) in
    sym (counted_many a.s.now a.index.now c.if-index-eq0.false (omega (arith, left_is c.args.s.now c.args.index.now _ c.place_at-place.ensures _ _ c.get16.ensures c.events_left-left.ensures, c.if-left-eq0.false)) (omega (arith, left_is c.args.s.now c.args.index.now _ c.place_at-place.ensures _ _ c.get16.ensures c.events_left-left.ensures, c.if-left-gt-BLOCK.false)) (rw (place_is c.args.index.now _ c.place_at-place.ensures) at h)
    (omega (arith, left_is c.args.s.now c.args.index.now _ c.place_at-place.ensures _ _ c.get16.ensures c.events_left-left.ensures, c.lesser-before.ensures, c.if-before-left.true)))

pub returns : goal.returns
returns c =
    let a = c.args in
    let h : c.place_at-place.result.at + 6 * c.place_at-place.result.gone ≤ 14 + 6 * (256 * (length a.index.now / 80)) = omega (arith, c.lesser-before.ensures, c.if-before-place.false) in
    let all : 256 * c.lesser-before.result + c.events_left-left.result ≡ 256 * (length a.index.now / 80) + last_events a.s.now a.index.now = omega (arith, left_is c.args.s.now c.args.index.now _ c.place_at-place.ensures _ _ c.get16.ensures c.events_left-left.ensures, c.lesser-before.ensures, c.if-before-left.false) in
    ap (λ (n : ℕ). Ok (Some n)) all
    ∙ sym (counted_events a.s.now a.index.now c.if-index-eq0.false (omega (arith, left_is c.args.s.now c.args.index.now _ c.place_at-place.ensures _ _ c.get16.ensures c.events_left-left.ensures, c.if-left-eq0.false)) (omega (arith, left_is c.args.s.now c.args.index.now _ c.place_at-place.ensures _ _ c.get16.ensures c.events_left-left.ensures, c.if-left-gt-BLOCK.false)) (rw (place_is c.args.index.now _ c.place_at-place.ensures) at h)
    (omega (arith, all, c.if-before-left.false)))
