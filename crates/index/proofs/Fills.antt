-- Writing the entries of a node: what a block and a pair come to, and what is known of each half.
-- Assumes nothing.
use Prim.Native.Nat.{ℕ, suc, ◌+◌, ◌-◌, ◌*◌, ◌/◌, ◌≤◌, ◌<◌, min}
use mathlib.Core.Bool.{true}
use mathlib.Core.List.{List}
use mathlib.Core.Path.{◌≡◌, refl, sym}
use native.Mathlib.Omega.{arith}
use lib.ListN.{length}
use Rattle.shaper.specs.declared.Limits.{Limits}
use Rattle.shaper.specs.declared.Event.{Event}
use Rattle.shaper.specs.Limits.{most_events}
use Rattle.wire.specs.Wire.{Bytes, put}
use Rattle.wire.proofs.Puts.{length_put}
use Rattle.record.specs.Record.{WellFormed}
use Rattle.record.specs.Read.{whole, read_in}
use Rattle.excerpt.specs.declared.Place.{Place}
use Rattle.excerpt.specs.Excerpt.{summed, excerpt_of}
use Rattle.roll.specs.Steps.{Reads}
use Rattle.index.specs.Tree.{block_events, blocks_of, top_level, size_of, from_of, to_of}
use Rattle.index.specs.Index.{events_in, place_of, node_summary, node_entry, node_bytes}
use Rattle.index.specs.Fill.{Filling, filled_of, both_of}
use Rattle.index.proofs.Sizes.{size_some, size_next, size_block, size_top, size_mono}
use Rattle.index.proofs.Puts.{put_three}
use Rattle.index.proofs.Nodes.{node_pair, blocks_hold, length_node, length_node_full, length_node_entry}
use Rattle.index.proofs.Levels as levels
use Rattle.index.proofs.Whole.{whole_formed, few_whole, part_whole, place_on}

-- what was read whole has its events
pub events_in_lem : (xs : List ℕ) (l : Limits) (es : List Event) → read_in true xs ≡ whole l es → events_in xs ≡ es
unfolding events_in
events_in_lem xs l es e = rw e

-- and they are well formed
pub well_formed : (xs : List ℕ) (l : Limits) → Bytes xs → Reads true xs l → WellFormed l (events_in xs)
well_formed xs l b r = rw (events_in_lem xs l r.events r.reads) (whole_formed xs l r.events b r.reads)

-- ---- a block

module _ (l : Limits) (xs : List ℕ) (r : Reads true xs l) where
  -- read from its place on it is its summary, and the place behind it is that of the next
  pub block_fills : (x : ℕ) → from_of x < length (events_in xs) →
      excerpt_of l (min block_events (length (events_in xs) - from_of x)) xs (place_of xs (from_of x))
      ≡ summed (node_summary l (events_in xs) 0 x) (place_of xs (to_of (length (events_in xs)) 0 x))
  unfolding excerpt_of
  block_fills x some =
      let es = r.events in
      let same = events_in_lem xs l es r.reads in
      let n = length es in
      let count = min block_events (n - from_of x) in
      let there : from_of x < n = rw same at some in
      let one = size_block in
      let to : from_of x + count ≡ to_of n 0 x = omega arith in
      let long : to_of n 0 x - from_of x ≡ count = omega arith in
      rw same (rw (part_whole xs l es r.reads (from_of x) count (omega arith), place_on xs (from_of x) count, to, long))

-- ---- what is known of a node

-- its numbers are small,
pub record Small (n size x : ℕ) : Type 0 where
  pub few : n ≤ most_events
  pub narrow : size ≤ 4096
  pub near : x ≤ most_events

pub small : (l : Limits) (xs : List ℕ) (n k size x : ℕ) (p : Place) (room : List ℕ) → Filling l xs n k size x p room → Small n size x
small l xs n k size x p room f =
    let r = f.reads in
    let few : n ≤ most_events = rw (f.counts, events_in_lem xs l r.events r.reads) (few_whole xs l r.events r.reads) in
    let top = size_top in
    record { few = few; narrow = omega (arith, f.sized, size_mono k top_level f.low); near = omega (arith, few, f.some) }

-- and one of level 0 is a block
pub fills_block : (l : Limits) (xs : List ℕ) (n size x : ℕ) (p : Place) (room : List ℕ) → Filling l xs n 0 size x p room → Filling l xs n 0 1 x p room
fills_block l xs n size x p room f =
    record { reads = f.reads; counts = f.counts; sized = sym size_block; low = f.low; some = f.some; first = f.first; roomy = f.roomy }

-- its entries stand within the room
pub filled_length : (l : Limits) (xs : List ℕ) (n k size x : ℕ) (p : Place) (room : List ℕ) → Filling l xs n k size x p room →
    length (put room (80 * x) (node_bytes l xs (events_in xs) k x)) ≡ length room
filled_length l xs n k size x p room f =
    let long = length_node l xs (events_in xs) k x (rw f.counts at f.some) in
    let roomy : 80 * min (x + size_of k) (blocks_of (length (events_in xs))) ≤ length room + 40 = rw f.counts at f.roomy in
    let some = size_some k in
    let held = blocks_hold (length (events_in xs)) in
    length_put room (node_bytes l xs (events_in xs) k x) (80 * x) (omega (arith, rw f.counts at f.some))

pub filled_is : (l : Limits) (xs : List ℕ) (k x : ℕ) → record { sum = node_summary l (events_in xs) k x; next = (filled_of l xs k x).next } ≡ filled_of l xs k x
unfolding filled_of
filled_is l xs k x = refl

-- ---- a node above a block

-- half of its blocks
pub half_size : (k size : ℕ) → size ≡ size_of (suc k) → size / 2 ≡ size_of k
half_size k size e = omega (arith, e, size_next k)

module _ (l : Limits) (xs : List ℕ) (n k size x : ℕ) (p : Place) (room : List ℕ) (f : Filling l xs n (suc k) size x p room) where
  -- its first half
  pub fills_first : Filling l xs n k (size_of k) x p room
  fills_first =
      let next = size_next k in
      let some = size_some k in
      record {
        reads = f.reads;
        counts = f.counts;
        sized = refl;
        low = omega (arith, f.low);
        some = f.some;
        first = f.first;
        roomy = omega (arith, f.roomy);
      }

  -- and its second, where it has one
  pub fills_second : block_events * (x + size_of k) < n → (after : List ℕ) → length after ≡ length room → Filling l xs n k (size_of k) (x + size_of k) (place_of xs (from_of (x + size_of k))) after
  fills_second pair after long =
      let next = size_next k in
      record {
        reads = f.reads;
        counts = f.counts;
        sized = refl;
        low = omega (arith, f.low);
        some = pair;
        first = refl;
        roomy = omega (arith, f.roomy, long);
      }

  -- the second begins behind the first
  pub half_next : block_events * (x + size_of k) < n → (filled_of l xs k x).next ≡ place_of xs (from_of (x + size_of k))
  unfolding filled_of
  half_next pair = let same = f.counts in let to : to_of (length (events_in xs)) k x ≡ from_of (x + size_of k) = omega arith in rw to

  -- an odd one alone comes to what the one below it comes to,
  pub fills_alone : n ≤ block_events * (x + size_of k) → filled_of l xs k x ≡ filled_of l xs (suc k) x
  unfolding filled_of
  fills_alone alone =
      let same = f.counts in
      let next = size_next k in
      let to : to_of (length (events_in xs)) (suc k) x ≡ to_of (length (events_in xs)) k x = omega arith in
      rw to

  -- and a pair to both, joined,
  pub both_sums : Bytes xs → both_of (filled_of l xs k x).sum (filled_of l xs k (x + size_of k)).sum ≡ node_summary l (events_in xs) (suc k) x
  unfolding filled_of both_of
  both_sums bytes = rw (levels.node_joins l (events_in xs) (well_formed xs l bytes f.reads) k x)

  -- with the place behind the second;
  pub both_next : block_events * (x + size_of k) < n → (filled_of l xs k (x + size_of k)).next ≡ (filled_of l xs (suc k) x).next
  unfolding filled_of
  both_next pair =
      let next = size_next k in
      let same = f.counts in
      let to : to_of (length (events_in xs)) k (x + size_of k) ≡ to_of (length (events_in xs)) (suc k) x = omega arith in
      rw to

  -- its entries: those of its halves, and its own between them
  pub fills_bytes : block_events * (x + size_of k) < n →
      put (put (put room (80 * x) (node_bytes l xs (events_in xs) k x)) (80 * (x + size_of k)) (node_bytes l xs (events_in xs) k (x + size_of k))) (80 * (x + size_of k) - 40)
      (node_entry l xs (events_in xs) (suc k) x)
      ≡ put room (80 * x) (node_bytes l xs (events_in xs) (suc k) x)
  fills_bytes pair =
      let same = f.counts in
      let es = events_in xs in
      let next = size_next k in
      let some = size_some k in
      let full = length_node_full l xs es k x (omega arith) in
      let own = length_node_entry l xs es (suc k) x in
      let rest = length_node l xs es k (x + size_of k) (omega arith) in
      let held = blocks_hold (length es) in
      let roomy : 80 * min (x + size_of (suc k)) (blocks_of (length es)) ≤ length room + 40 = rw same at f.roomy in
      rw (node_pair l xs es k x (rw same at pair))
      (put_three room (node_bytes l xs es k x) (node_entry l xs es (suc k) x) (node_bytes l xs es k (x + size_of k)) (80 * x) (80 * (x + size_of k) - 40) (80 * (x + size_of k))
      (omega arith) (omega arith) (omega (arith, roomy)))
