-- Where each node's entry stands in the index, in document 02's numbers.
-- Assumes nothing.
use Prim.Native.Nat.{ℕ, zero, suc, ◌+◌, ◌-◌, ◌*◌, ◌/◌, ◌%◌, ◌≤◌, ◌<◌}
use mathlib.Core.List.{List, [], ◌∷◌, append-nil}
use mathlib.Core.Path.{◌≡◌, refl, sym, ap, subst, ◌∙◌}
use native.Mathlib.Omega.{arith}
use native.Mathlib.Nat.{zero-add, add-zero, mul-zero, mul-suc, mul-add, add-mul}
use borrow.Author.Tests.{lt-ltb, le-ltb}
use lib.ListN.{length}
use Rattle.decide.proofs.Cases.{by_cases, le_or}
use Rattle.wire.specs.Parts.{Part, bytes_part, offset, nth}
use Rattle.wire.proofs.Places.{Stands, stands_whole}
use Rattle.wire.proofs.Laid.{part_stands}
use Rattle.shaper.specs.declared.Limits.{Limits}
use Rattle.shaper.specs.declared.Event.{Event}
use Rattle.shaper.specs.Limits.{most_events}
use Rattle.summary.specs.Summary.{summary_of}
use Rattle.index.specs.Tree.{block_events, top_level, size_of, from_of, to_of, stands_at}
use Rattle.index.specs.Entry.{entry_bytes}
use Rattle.index.specs.Index.{piece_of, place_of, node_entry, node_bytes, index_bytes}
use Rattle.index.proofs.Sizes.{size_some, size_next, size_top}
use Rattle.index.proofs.Nodes.{length_node_entry, node_block, node_pair, node_alone, length_node_full, index_node}

-- ---- positions

-- Block j stands at entry 2j;
pub stands_block : (n j : ℕ) → stands_at n 0 j ≡ 2 * j
unfolding stands_at
stands_block n j = refl

-- the entry above, which parts its blocks before block m, stands at 2m − 1.
pub stands_above : (n k x : ℕ) → block_events * (x + size_of k) < n → stands_at n (suc k) x ≡ 2 * (x + size_of k) - 1
unfolding stands_at
stands_above n k x h = rw (lt-ltb (block_events * (x + size_of k)) n h)

-- An odd one alone is the same summary as the one below it and is stored once.
pub stands_alone : (n k x : ℕ) → n ≤ block_events * (x + size_of k) → stands_at n (suc k) x ≡ stands_at n k x
unfolding stands_at
stands_alone n k x h = rw (le-ltb (block_events * (x + size_of k)) n h)

-- ---- nodes that lie in a node

-- the node (k, x) is the node (K, X), or lies in one of its halves
pub data Under : ℕ → ℕ → ℕ → ℕ → Type 0 where
  here : {k x : ℕ} → Under k x k x
  first_half : {K X k x : ℕ} → Under K X k x → Under (suc K) X k x
  second_half : {K X k x : ℕ} → Under K (X + size_of K) k x → Under (suc K) X k x

-- none begins before it
pub under_from : {K X k x : ℕ} → Under K X k x → X ≤ x
under_from here = omega arith
under_from (first_half u) = under_from u
under_from (second_half u) = omega (arith, under_from u)

-- the halves of one that lies in it lie in it
under_first : {K X k x : ℕ} → Under K X (suc k) x → Under K X k x
under_first here = first_half here
under_first (first_half u) = first_half (under_first u)
under_first (second_half u) = second_half (under_first u)

under_second : {K X k x : ℕ} → Under K X (suc k) x → Under K X k (x + size_of k)
under_second here = second_half here
under_second (first_half u) = first_half (under_second u)
under_second (second_half u) = second_half (under_second u)

-- ---- a node by its level and its number on that level

-- of nodes of one size the first alone begins before the second
only_first : (s i : ℕ) → 1 ≤ s → s * i < s → s * i ≡ 0
only_first s zero p h = mul-zero s
only_first s (suc i) p h = absurd (omega (arith, rw mul-suc at h))

-- a node of an even number begins where the one above does, and one of an odd number begins half a node behind
doubled : (s t j : ℕ) → t ≡ s + s → t * j ≡ s * (j + j)
doubled s t j e = ap (λ (u : ℕ). u * j) e ∙ add-mul s s j ∙ sym (mul-add s j j)

even_begins : (s t i : ℕ) → t ≡ s + s → i % 2 ≤ 0 → t * (i / 2) ≡ s * i
even_begins s t i e h = doubled s t (i / 2) e ∙ ap (λ (u : ℕ). s * u) (omega arith)

odd_begins : (s t i : ℕ) → t ≡ s + s → 0 < i % 2 → t * (i / 2) + s ≡ s * i
odd_begins s t i e h =
    ap (λ (u : ℕ). u + s) (doubled s t (i / 2) e) ∙ sym (mul-suc s (i / 2 + i / 2)) ∙ ap (λ (u : ℕ). s * u) (omega arith)

-- so it lies in the node above of half its number, and so on up d levels
levels_under : (d k i : ℕ) → size_of k * i < size_of (d + k) → Under (d + k) 0 k (size_of k * i)
levels_under zero k i h = rw (zero-add, only_first (size_of k) i (size_some k) (rw zero-add at h)) here
levels_under (suc d) k i h =
    let up : suc d + k ≡ d + suc k = omega arith in
    by_cases (le_or (i % 2) 0)
    (λ g.
    let e = even_begins (size_of k) (size_of (suc k)) i (size_next k) g in
    rw (up, ← e) (under_first (levels_under d (suc k) (i / 2) (rw (e, ← up) h))))
    (λ g.
    let e = odd_begins (size_of k) (size_of (suc k)) i (size_next k) g in
    rw (up, ← e) (under_second (levels_under d (suc k) (i / 2) (rw (← up) (omega (arith, e))))))

pub aligned_under : (k i : ℕ) → k ≤ top_level → size_of k * i < size_of top_level → Under top_level 0 k (size_of k * i)
aligned_under k i h g =
    let e : top_level ≡ (top_level - k) + k = omega arith in
    subst (λ (t : ℕ). Under t 0 k (size_of k * i)) (sym e) (levels_under (top_level - k) k i (subst (λ (t : ℕ). size_of k * i < size_of t) e g))

-- ---- entries

module _ (l : Limits) (xs : List ℕ) (es : List Event) where
  -- the entry of an odd one alone is that of the one below: it covers the same events
  pub entry_alone : (k x : ℕ) → length es ≤ block_events * (x + size_of k) → node_entry l xs es (suc k) x ≡ node_entry l xs es k x
  entry_alone k x h =
      let s = size_next k in
      let e : to_of (length es) (suc k) x ≡ to_of (length es) k x = omega arith in
      ap (λ (t : ℕ). entry_bytes (place_of xs (from_of x)) (summary_of l (piece_of es (from_of x) t))) e

  -- the bytes of a node of two halves: those of the first, its entry, those of the second
  abbrev pieces : ℕ → ℕ → List Part
  pieces k x = bytes_part (node_bytes l xs es k x) ∷ bytes_part (node_entry l xs es (suc k) x) ∷ bytes_part (node_bytes l xs es k (x + size_of k)) ∷ []

  pieces_stand : (k x j at to : ℕ) (ys : List ℕ) → at + offset (pieces k x) j ≡ to → block_events * (x + size_of k) < length es → Stands ys at (node_bytes l xs es (suc k) x) →
      Stands ys to (nth (pieces k x) j).bytes
  pieces_stand k x j at to ys e h s =
      subst (λ (u : ℕ). Stands ys u (nth (pieces k x) j).bytes) e
      (part_stands (pieces k x) j ys at (rw append-nil (rw (node_pair l xs es k x h) at s)))

  module _ (ys : List ℕ) where
    -- a node's own entry
    node_stands : (k x : ℕ) → from_of x < length es → Stands ys (80 * x) (node_bytes l xs es k x) → Stands ys (40 * stands_at (length es) k x) (node_entry l xs es k x)
    node_stands zero x h s =
        let e : 80 * x ≡ 40 * stands_at (length es) 0 x = omega (arith, stands_block (length es) x) in
        rw (← e) (rw (node_block l xs es x) at s)
    node_stands (suc k) x h s =
        by_cases (le_or (length es) (block_events * (x + size_of k)))
        (λ g. rw (stands_alone (length es) k x g, entry_alone k x g) (node_stands k x h (rw (node_alone l xs es k x g) at s)))
        (λ g.
        let a = length_node_full l xs es k x (omega arith) in
        let e : 80 * x + (length (node_bytes l xs es k x) + 0) ≡ 40 * stands_at (length es) (suc k) x = omega (arith, stands_above (length es) k x g) in
        pieces_stand k x 1 (80 * x) _ ys e g s)

    -- and those of all that lies in it
    pub under_stands : {K X k x : ℕ} → Under K X k x → from_of x < length es → Stands ys (80 * X) (node_bytes l xs es K X) →
        Stands ys (40 * stands_at (length es) k x) (node_entry l xs es k x)
    under_stands (here {k} {x}) h s = node_stands k x h s
    under_stands (first_half {K} {X} u) h s =
        by_cases (le_or (length es) (block_events * (X + size_of K)))
        (λ g. under_stands u h (rw (node_alone l xs es K X g) at s))
        (λ g. under_stands u h (pieces_stand K X 0 (80 * X) _ ys (add-zero (80 * X)) g s))
    under_stands (second_half {K} {X} u) h s =
        let f = under_from u in
        let g : block_events * (X + size_of K) < length es = omega arith in
        let a = length_node_full l xs es K X (omega arith) in
        let b = length_node_entry l xs es (suc K) X in
        let e : 80 * X + (length (node_bytes l xs es K X) + (length (node_entry l xs es (suc K) X) + 0)) ≡ 80 * (X + size_of K) = omega arith in
        under_stands u h (pieces_stand K X 2 (80 * X) _ ys e g s)

  -- A node of level k and number i has its entry at its place in the index.
  pub index_stands : (k i : ℕ) → k ≤ top_level → length es ≤ most_events → from_of (size_of k * i) < length es →
      Stands (index_bytes l xs es) (40 * stands_at (length es) k (size_of k * i)) (node_entry l xs es k (size_of k * i))
  index_stands k i t m h =
      rw (index_node l xs es (omega arith))
      (under_stands (node_bytes l xs es top_level 0) (aligned_under k i t (omega (arith, size_top))) h (stands_whole (node_bytes l xs es top_level 0)))
