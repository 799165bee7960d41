-- What is read from the block's place on is its summary, which is written with that place.
-- Assumes nothing.
use Prim.Native.Nat.{ℕ, ◌-◌, ◌*◌, min}
use mathlib.Core.List.{List}
use Rattle.shaper.specs.declared.Limits.{Limits}
use Rattle.excerpt.specs.Excerpt.{Answered, with_place, summed, excerpt_of}
use Rattle.excerpt.specs.declared.Excerpt.{Excerpt}
use mathlib.Core.Path.{◌≡◌, refl, sym, ap, ◌∙◌}
use native.Mathlib.Omega.{arith}
use lib.ListN.{length}
use Rattle.excerpt.specs.declared.Place.{Place}
use Rattle.index.specs.Tree.{to_of}
use Rattle.index.specs.Index.{events_in, place_of, node_summary}
use Rattle.index.specs.Fill.{Filling, filled_of}
use Rattle.index.proofs.Sizes.{size_block}
use Rattle.index.proofs.Nodes.{node_block, blocks_hold}
use Rattle.index.proofs.Whole.{whole_headed}
use Rattle.index.proofs.Fills.{block_fills}
use Rattle.index.proofs.put_block.Goals as goal

-- what is read is the block
told : (l : Limits) (xs : List ℕ) (n x : ℕ) (p : Place) (room : List ℕ) → Filling l xs n 0 1 x p room → (count : ℕ) (r : Answered) →
    count ≡ min 256 (n - 256 * x) → r ≡ excerpt_of l count xs p →
    r ≡ summed (node_summary l (events_in xs) 0 x) (place_of xs (to_of (length (events_in xs)) 0 x))
told l xs n x p room f count r few e =
    e
    ∙ rw (few, f.first, f.counts)
    (block_fills l xs f.reads x (rw f.counts at f.some))

pub part-requires : goal.part-requires
part-requires c =
    ((whole_headed c.args.s.now c.args.limits c.requires.reads.events c.requires.reads.reads).in_range_lem, omega (arith, c.lesser-count.ensures))

pub put_entry-requires : goal.put_entry-requires
put_entry-requires c =
    let one = size_block in
    let held = blocks_hold c.args.n in
    omega (arith, c.requires.roomy, c.requires.some)

pub unwrap-part-requires : goal.unwrap-part-requires
unwrap-part-requires c =
    let a = c.args in
    rw (told a.limits a.s.now a.n a.block a.place a.room.now c.requires _ _ c.lesser-count.ensures c.part.ensures) refl

pub returns-clause-value : goal.returns-clause-value
unfolding filled_of
returns-clause-value c =
    let a = c.args in
    let t = told a.limits a.s.now a.n a.block a.place a.room.now c.requires _ _ c.lesser-count.ensures c.part.ensures in
    let read : c.unwrap-part.result ≡ with_place (node_summary a.limits (events_in a.s.now) 0 a.block) (place_of a.s.now (to_of (length (events_in a.s.now)) 0 a.block)) = cc (sym c.unwrap-part.ensures ∙ t) in
    rw (ap (λ (e : Excerpt). e.sum) read, ap (λ (e : Excerpt). e.next) read) refl

pub returns-clause-room_after : goal.returns-clause-room_after
returns-clause-room_after c =
    let a = c.args in
    let t = told a.limits a.s.now a.n a.block a.place a.room.now c.requires _ _ c.lesser-count.ensures c.part.ensures in
    let read : c.unwrap-part.result ≡ with_place (node_summary a.limits (events_in a.s.now) 0 a.block) (place_of a.s.now (to_of (length (events_in a.s.now)) 0 a.block)) = cc (sym c.unwrap-part.ensures ∙ t) in
    c.put_entry.ensures ∙ rw (ap (λ (e : Excerpt). e.sum) read, c.requires.first, node_block a.limits a.s.now (events_in a.s.now) a.block) refl
