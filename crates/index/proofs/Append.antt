-- Events added at a record's end: no event's place moves, and no entry of a node that covers none of them changes or moves.
-- Assumes nothing.
use Prim.Native.Nat.{ℕ, zero, suc, ◌+◌, ◌-◌, ◌*◌, ◌≤◌, ◌<◌}
use mathlib.Core.Bool.{true}
use mathlib.Core.List.{List, [], ◌∷◌, ◌++◌}
use mathlib.Core.Path.{◌≡◌, refl, sym, ◌∙◌}
use native.Mathlib.Omega.{arith}
use borrow.Author.Tests.{lt-ltb}
use lib.ListN.{length, drop, length-append, length-drop}
use lib.Seq.{take-append-le, drop-append-le}
use Rattle.decide.specs.Refusal.{first_of}
use Rattle.decide.proofs.Cases.{by_cases, le_or, true_or_false}
use Rattle.shaper.specs.declared.Limits.{Limits}
use Rattle.shaper.specs.declared.Event.{Event}
use Rattle.shaper.specs.Limits.{most_events}
use Rattle.wire.proofs.Numbers.{le_append_left}
use Rattle.record.specs.Read.{length_at, is_run, item_faults, item_count, events, read_items, whole, read_in}
use Rattle.record.proofs.Rows.{event_cut, run_cut}
use Rattle.excerpt.specs.declared.Place.{Place}
use Rattle.excerpt.specs.Place.{first_place, bytes_from, next_place, place_after}
use Rattle.index.specs.Tree.{block_events, size_of, from_of, stands_at}
use Rattle.index.specs.Index.{piece_of, place_of, node_summary, node_entry}
use Rattle.index.proofs.Sizes.{size_some, size_next}
use Rattle.index.proofs.Levels.{node_uncut}
use Rattle.index.proofs.Places.{walk_one, whole_read}

-- ---- bytes behind the record

-- an item without a fault stands whole: 6 bytes, or 10 of a run
item_whole : (mtu : ℕ) (xs : List ℕ) (at : ℕ) → first_of (item_faults true mtu (drop at xs)) ≡ 0 → (at + 6 ≤ length xs) × (is_run (drop at xs) ≡ true → at + 10 ≤ length xs)
item_whole mtu xs at h =
    let ten : is_run (drop at xs) ≡ true → at + 10 ≤ length xs = λ r. by_cases (le_or (at + 10) (length xs)) (λ k. k) (λ k. absurd (omega (arith, run_cut true mtu xs at r k))) in (
      by_cases (true_or_false (is_run (drop at xs)))
          (λ r. omega (arith, ten r))
          (λ r. by_cases (le_or (at + 6) (length xs)) (λ k. k) (λ k. absurd (omega (arith, event_cut true mtu xs at r k)))),
      ten,
    )

-- so what stands behind changes neither its length nor its count
length_before : (ys q : List ℕ) → 6 ≤ length ys → length_at (ys ++ q) ≡ length_at ys
length_before ys q h = le_append_left 2 ys q 0 (omega arith)

run_before : (ys q : List ℕ) → 6 ≤ length ys → is_run (ys ++ q) ≡ is_run ys
unfolding is_run
run_before ys q h = rw (le_append_left 2 ys q 2 (omega arith))

count_before : (ys q : List ℕ) → 6 ≤ length ys → (is_run ys ≡ true → 10 ≤ length ys) → item_count (ys ++ q) ≡ item_count ys
unfolding item_count
count_before ys q h ten =
    let e = run_before ys q h in
    by_cases (true_or_false (is_run ys)) (λ r. rw (e, r) (le_append_left 2 ys q 8 (ten r))) (λ r. rw (e, r))

next_append : (mtu : ℕ) (xs q : List ℕ) (p : Place) → first_of (item_faults true mtu (bytes_from xs p)) ≡ 0 → next_place (xs ++ q) p ≡ next_place xs p
next_append mtu xs q p free =
    let w = item_whole mtu xs p.at free in
    let n = length-drop p.at xs in
    let six : 6 ≤ length (bytes_from xs p) = omega (arith, w.0) in
    let ten : is_run (bytes_from xs p) ≡ true → 10 ≤ length (bytes_from xs p) = λ r. omega (arith, w.1 r) in
    rw (drop-append-le p.at xs q (omega (arith, w.0)), count_before (bytes_from xs p) q six ten, length_before (bytes_from xs p) q six)

-- Bytes behind a record move none of its places, up to the one behind its last event.
after_append : (late mtu : ℕ) (xs q : List ℕ) (count left : ℕ) (p : Place) (es : List Event) →
    read_items true late mtu left p.gone (bytes_from xs p) ≡ events es → count ≤ length es → place_after count (xs ++ q) p ≡ place_after count xs p
unfolding place_after
after_append late mtu xs q zero left p es h n = refl
after_append late mtu xs q (suc count) left p [] h n = absurd (omega arith)
after_append late mtu xs q (suc count) left p (e ∷ es) h n =
    let w = walk_one late mtu left xs p e es h in
    rw (next_append mtu xs q p w.free) (after_append late mtu xs q count (left - 1) (next_place xs p) es w.rest (omega arith))

pub place_append : (xs : List ℕ) (l : Limits) (es : List Event) → read_in true xs ≡ whole l es → (i : ℕ) → i ≤ length es → (q : List ℕ) → place_of (xs ++ q) i ≡ place_of xs i
unfolding place_of
place_append xs l es h i n q = after_append 9 l.mtu xs q i most_events first_place es (whole_read xs l es h) n

-- ---- entries

-- where a node that parts stands hangs on no more events
stands_parts : (n k x : ℕ) → block_events * (x + size_of k) < n → stands_at n (suc k) x ≡ 2 * (x + size_of k) - 1
unfolding stands_at
stands_parts n k x h = rw (lt-ltb (block_events * (x + size_of k)) n h)

module _ (es fs : List Event) where
  more : length es ≤ length (es ++ fs)
  more = omega (arith, length-append es fs)

  -- a stretch before the end is the same
  piece_kept : (a b : ℕ) → a ≤ b → b ≤ length es → piece_of (es ++ fs) a b ≡ piece_of es a b
  piece_kept a b h n =
      rw (drop-append-le a es fs (omega arith)) (take-append-le (b - a) (drop a es) fs (omega (arith, length-drop a es)))

  pub node_kept : (l : Limits) (k x : ℕ) → block_events * (x + size_of k) ≤ length es → node_summary l (es ++ fs) k x ≡ node_summary l es k x
  node_kept l k x h =
      rw (node_uncut l (es ++ fs) k x, node_uncut l es k x, piece_kept (from_of x) (block_events * (x + size_of k)) (omega arith) h)

  -- a node that parts already
  pub parts_stands : (k x : ℕ) → block_events * (x + size_of k) < length es → stands_at (length (es ++ fs)) (suc k) x ≡ stands_at (length es) (suc k) x
  parts_stands k x h = stands_parts (length (es ++ fs)) k x (omega (arith, more)) ∙ sym (stands_parts (length es) k x h)

  -- and one that covers none of the events added
  pub leaves_stands : (k x : ℕ) → block_events * (x + size_of k) ≤ length es → stands_at (length (es ++ fs)) k x ≡ stands_at (length es) k x
  unfolding stands_at
  leaves_stands zero x h = refl
  leaves_stands (suc k) x h = parts_stands k x (omega (arith, size_next k, size_some k))

-- Its entry is the same bytes at the same place.
pub append_leaves : (xs q : List ℕ) (l : Limits) (es fs : List Event) → read_in true xs ≡ whole l es → (k x : ℕ) → block_events * (x + size_of k) ≤ length es →
    (node_entry l (xs ++ q) (es ++ fs) k x ≡ node_entry l xs es k x) × (stands_at (length (es ++ fs)) k x ≡ stands_at (length es) k x)
append_leaves xs q l es fs r k x h =
    (rw (place_append xs l es r (from_of x) (omega arith) q, node_kept es fs l k x h), leaves_stands es fs k x h)
