-- A block is written as it is, an odd one alone as the one below it, and a pair as its halves with its own entry between them.
-- Assumes nothing.
use Prim.Native.Nat.{ℕ, suc, ◌+◌, ◌-◌, ◌*◌, ◌/◌, ◌≤◌, ◌<◌}
use mathlib.Core.List.{List}
use mathlib.Core.Path.{◌≡◌, sym, ap, subst, ◌∙◌}
use native.Mathlib.Omega.{arith}
use lib.ListN.{length}
use Rattle.shaper.specs.declared.Limits.{Limits}
use Rattle.wire.specs.Wire.{put}
use Rattle.excerpt.specs.declared.Place.{Place}
use Rattle.index.specs.Tree.{size_of, from_of}
use Rattle.index.specs.Index.{events_in, place_of, node_summary, node_bytes}
use Rattle.index.specs.Fill.{Filling, filled_of}
use Rattle.index.proofs.Sizes.{size_some}
use Rattle.index.proofs.Nodes.{node_alone, blocks_hold}
use Rattle.index.proofs.Fills.{small, fills_block, half_size, filled_length, filled_is, fills_first, fills_second, half_next, fills_alone, both_sums, both_next, fills_bytes}
use Rattle.index.proofs.+put_node.Goals as goal

-- a node above a block: of the level below it are its halves
record Above (l : Limits) (xs : List ℕ) (n level size x : ℕ) (p : Place) (room : List ℕ) : Type 0 where
  up : suc (level - 1) ≡ level
  filling : Filling l xs n (suc (level - 1)) size x p room
  half : size / 2 ≡ size_of (level - 1)

above : (l : Limits) (xs : List ℕ) (n level size x : ℕ) (p : Place) (room : List ℕ) → Filling l xs n level size x p room → (level ≡ 0 → ⊥) → Above l xs n level size x p room
above l xs n level size x p room given some =
    let up : suc (level - 1) ≡ level = omega (arith, some) in
    let f = subst (λ (j : ℕ). Filling l xs n j size x p room) (sym up) given in
    record { up = up; filling = f; half = half_size (level - 1) size f.sized }

-- behind the first half: what is known of the second, and the room it has
second : (l : Limits) (xs : List ℕ) (n level size x : ℕ) (p : Place) (room : List ℕ) → Above l xs n level size x p room → 256 * (x + size / 2) < n →
    (after : List ℕ) → after ≡ put room (80 * x) (node_bytes l xs (events_in xs) (level - 1) x) →
    Filling l xs n (level - 1) (size_of (level - 1)) (x + size_of (level - 1)) (place_of xs (from_of (x + size_of (level - 1)))) after
second l xs n level size x p room k more after e =
    let pair : 256 * (x + size_of (level - 1)) < n = rw k.half at more in
    let first = fills_first l xs n (level - 1) size x p room k.filling in
    let long = ap length e ∙ filled_length l xs n (level - 1) (size_of (level - 1)) x p room first in
    fills_second l xs n (level - 1) size x p room k.filling pair after long

pub put_block-requires : goal.put_block-requires
put_block-requires t c =
    let a = c.args in
    fills_block a.limits a.s.now a.n a.size a.block a.place a.room.now (rw c.if-level-eq0.true at c.requires)

pub overflow_add-middle : goal.overflow_add-middle
overflow_add-middle t c =
    let a = c.args in
    let w = small a.limits a.s.now a.n a.level a.size a.block a.place a.room.now c.requires in
    record { fits = omega (arith, w.narrow, w.near) }

pub overflow_mul-middle : goal.overflow_mul-middle
overflow_mul-middle t c =
    let a = c.args in
    let w = small a.limits a.s.now a.n a.level a.size a.block a.place a.room.now c.requires in
    record { fits = omega (arith, w.narrow, w.near) }

pub put_node-requires : goal.put_node-requires
put_node-requires t c =
    let a = c.args in
    let k = above a.limits a.s.now a.n a.level a.size a.block a.place a.room.now c.requires c.if-level-eq0.false in
    (omega (arith, c.decreases, c.if-level-eq0.false), rw k.half (fills_first a.limits a.s.now a.n (a.level - 1) a.size a.block a.place a.room.now k.filling))

pub returns-then-n-middle : goal.returns-then-n-middle
returns-then-n-middle t c =
    let a = c.args in
    let k = above a.limits a.s.now a.n a.level a.size a.block a.place a.room.now c.requires c.if-level-eq0.false in
    let alone : a.n ≤ 256 * (a.block + size_of (a.level - 1)) = rw k.half at c.if-n-middle.true in
    let same = fills_alone a.limits a.s.now a.n (a.level - 1) a.size a.block a.place a.room.now k.filling alone in
    record {
      value = c.put_node.ensures.value ∙ same ∙ ap (λ (j : ℕ). filled_of a.limits a.s.now j a.block) k.up;
      room_after = c.put_node.ensures.room_after
          ∙ ap (put a.room.now (80 * a.block))
          (sym (node_alone a.limits a.s.now (events_in a.s.now) (a.level - 1) a.block (rw k.filling.counts at alone)) ∙ ap (λ (j : ℕ). node_bytes a.limits a.s.now (events_in a.s.now) j a.block) k.up);
    }

pub put_node-left-requires : goal.put_node-left-requires
put_node-left-requires t c =
    let a = c.args in
    let k = above a.limits a.s.now a.n a.level a.size a.block a.place a.room.now c.requires c.if-level-eq0.false in
    (omega (arith, c.decreases, c.if-level-eq0.false), rw k.half (fills_first a.limits a.s.now a.n (a.level - 1) a.size a.block a.place a.room.now k.filling))

pub put_node-right-requires : goal.put_node-right-requires
put_node-right-requires t c =
    let a = c.args in
    let k = above a.limits a.s.now a.n a.level a.size a.block a.place a.room.now c.requires c.if-level-eq0.false in
    let pair : 256 * (a.block + size_of (a.level - 1)) < a.n = rw k.half at c.if-n-middle.false in
    let next = half_next a.limits a.s.now a.n (a.level - 1) a.size a.block a.place a.room.now k.filling pair in
    let f = second a.limits a.s.now a.n a.level a.size a.block a.place a.room.now k c.if-n-middle.false _ c.put_node-left.ensures.room_after in
    (omega (arith, c.decreases, c.if-level-eq0.false), rw (k.half, c.put_node-left.ensures.value, next) f)

pub overflow_mul-middle-2 : goal.overflow_mul-middle-2
overflow_mul-middle-2 t c =
    let a = c.args in
    let w = small a.limits a.s.now a.n a.level a.size a.block a.place a.room.now c.requires in
    record { fits = omega (arith, w.narrow, w.near) }

pub overflow_sub-middle : goal.overflow_sub-middle
overflow_sub-middle t c =
    let a = c.args in
    let k = above a.limits a.s.now a.n a.level a.size a.block a.place a.room.now c.requires c.if-level-eq0.false in
    rw k.half (omega (arith, size_some (a.level - 1)))

pub put_entry-requires : goal.put_entry-requires
put_entry-requires t c =
    let a = c.args in
    let k = above a.limits a.s.now a.n a.level a.size a.block a.place a.room.now c.requires c.if-level-eq0.false in
    let f = second a.limits a.s.now a.n a.level a.size a.block a.place a.room.now k c.if-n-middle.false _ c.put_node-left.ensures.room_after in
    let there : c.put_node-right.new.room ≡ put c.put_node-left.new.room (80 * (a.block + size_of (a.level - 1))) (node_bytes a.limits a.s.now (events_in a.s.now) (a.level - 1) (a.block + size_of (a.level - 1))) =
    rw k.half at c.put_node-right.ensures.room_after in
    let long = ap length there ∙ filled_length a.limits a.s.now a.n (a.level - 1) (size_of (a.level - 1)) (a.block + size_of (a.level - 1)) _ _ f in
    let some = size_some (a.level - 1) in
    let held = blocks_hold a.n in
    rw k.half (omega (arith, long, f.roomy, f.some))

pub returns : goal.returns
returns t c =
    let a = c.args in
    let k = above a.limits a.s.now a.n a.level a.size a.block a.place a.room.now c.requires c.if-level-eq0.false in
    let pair : 256 * (a.block + size_of (a.level - 1)) < a.n = rw k.half at c.if-n-middle.false in
    let two = c.put_node-left in
    let three = c.put_node-right in
    let sum : c.both-sum.result ≡ node_summary a.limits (events_in a.s.now) (suc (a.level - 1)) a.block =
    c.both-sum.ensures ∙ rw (two.ensures.value, three.ensures.value, k.half) (both_sums a.limits a.s.now a.n (a.level - 1) a.size a.block a.place a.room.now k.filling (λ j. (c.type_inv.s j).fits)) in
    let next : three.result.next ≡ (filled_of a.limits a.s.now (suc (a.level - 1)) a.block).next =
    rw (three.ensures.value, k.half) (both_next a.limits a.s.now a.n (a.level - 1) a.size a.block a.place a.room.now k.filling pair) in
    record {
      value = rw (sum, next) (filled_is a.limits a.s.now (suc (a.level - 1)) a.block) ∙ ap (λ (j : ℕ). filled_of a.limits a.s.now j a.block) k.up;
      room_after = c.put_entry.ensures
          ∙ rw (sum, k.filling.first, three.ensures.room_after, two.ensures.room_after, k.half)
          (fills_bytes a.limits a.s.now a.n (a.level - 1) a.size a.block a.place a.room.now k.filling pair)
          ∙ ap (λ (j : ℕ). put a.room.now (80 * a.block) (node_bytes a.limits a.s.now (events_in a.s.now) j a.block)) k.up;
    }
