-- The bytes of a node: the rows of their definition, and how many they are.
-- Assumes nothing.
use Prim.Native.Nat.{ℕ, zero, suc, ◌+◌, ◌-◌, ◌*◌, ◌≤◌, ◌<◌, min}
use mathlib.Core.List.{List, [], ◌++◌}
use mathlib.Core.Path.{◌≡◌, refl, ap, ◌∙◌}
use native.Mathlib.Omega.{arith}
use borrow.Author.Tests.{lt-ltb, le-ltb, eq-eqb, ne_eqb}
use lib.ListN.{length, length-append}
use Rattle.decide.proofs.Cases.{by_cases, le_or}
use Rattle.wire.specs.Parts.{length_laid_out}
use Rattle.shaper.specs.declared.Limits.{Limits}
use Rattle.shaper.specs.declared.Event.{Event}
use Rattle.shaper.specs.Limits.{most_events}
use Rattle.summary.specs.declared.Summary.{Summary}
use Rattle.excerpt.specs.declared.Place.{Place}
use Rattle.index.specs.Tree.{block_events, top_level, size_of, blocks_of, from_of, index_length}
use Rattle.index.specs.Entry.{entry_parts, entry_bytes}
use Rattle.index.specs.Index.{place_of, node_summary, node_entry, node_bytes, index_bytes}
use Rattle.index.proofs.Sizes.{size_some, size_next, size_block, size_top}

pub length_entry : (p : Place) (s : Summary) → length (entry_bytes p s) ≡ 40
unfolding entry_bytes
length_entry p s = length_laid_out (entry_parts p s)

-- so many blocks and no more hold n events
pub blocks_hold : (n : ℕ) → (n ≤ block_events * blocks_of n) × (block_events * blocks_of n < n + block_events)
unfolding blocks_of
blocks_hold n = (omega arith, omega arith)

-- how many bytes: a block's entry, two halves with one between, an odd one alone (s blocks a half, b blocks in all)
one_long : (x b c : ℕ) → c ≡ 40 → x < b → c + 40 ≡ 80 * (min (x + 1) b - x)
one_long x b c e h = omega arith

pair_long : (x s t b c d g : ℕ) → t ≡ s + s → x + s < b → c + 40 ≡ 80 * (min (x + s) b - x) → d ≡ 40 → g + 40 ≡ 80 * (min (x + s + s) b - (x + s)) →
    c + (d + g) + 40 ≡ 80 * (min (x + t) b - x)
pair_long x s t b c d g e h p q r = omega arith

alone_long : (x s t b c : ℕ) → t ≡ s + s → b ≤ x + s → c + 40 ≡ 80 * (min (x + s) b - x) → c + 40 ≡ 80 * (min (x + t) b - x)
alone_long x s t b c e h p = omega arith

module _ (l : Limits) (xs : List ℕ) (es : List Event) where
  pub node_block : (x : ℕ) → node_bytes l xs es 0 x ≡ node_entry l xs es 0 x
  unfolding node_bytes
  node_block x = refl

  pub node_pair : (k x : ℕ) → block_events * (x + size_of k) < length es →
      node_bytes l xs es (suc k) x ≡ node_bytes l xs es k x ++ (node_entry l xs es (suc k) x ++ node_bytes l xs es k (x + size_of k))
  unfolding node_bytes
  node_pair k x h = rw (lt-ltb (block_events * (x + size_of k)) (length es) h)

  pub node_alone : (k x : ℕ) → length es ≤ block_events * (x + size_of k) → node_bytes l xs es (suc k) x ≡ node_bytes l xs es k x
  unfolding node_bytes
  node_alone k x h = rw (le-ltb (block_events * (x + size_of k)) (length es) h)

  pub length_node_entry : (k x : ℕ) → length (node_entry l xs es k x) ≡ 40
  length_node_entry k x = length_entry (place_of xs (from_of x)) (node_summary l es k x)

  -- a node's bytes: an entry for each of its blocks, and for each pair of them one between
  pub length_node : (k x : ℕ) → from_of x < length es → length (node_bytes l xs es k x) + 40 ≡ 80 * (min (x + size_of k) (blocks_of (length es)) - x)
  length_node zero x h =
      let b = blocks_hold (length es) in
      rw size_block (one_long x (blocks_of (length es)) (length (node_bytes l xs es 0 x)) (ap length (node_block x) ∙ length_node_entry 0 x) (omega arith))
  length_node (suc k) x h =
      let b = blocks_hold (length es) in
      by_cases (le_or (length es) (block_events * (x + size_of k)))
      (λ g. rw (node_alone k x g)
      (alone_long x (size_of k) (size_of (suc k)) (blocks_of (length es)) (length (node_bytes l xs es k x)) (size_next k) (omega arith) (length_node k x h)))
      (λ g. rw (node_pair k x g, length-append, length-append)
      (pair_long x (size_of k) (size_of (suc k)) (blocks_of (length es)) (length (node_bytes l xs es k x)) (length (node_entry l xs es (suc k) x)) (length (node_bytes l xs es k (x + size_of k)))
      (size_next k) (omega arith) (length_node k x h) (length_node_entry (suc k) x) (length_node k (x + size_of k) g)))

  -- where all its blocks exist
  pub length_node_full : (k x : ℕ) → block_events * (x + size_of k) < length es + block_events → length (node_bytes l xs es k x) + 40 ≡ 80 * size_of k
  length_node_full k x h =
      let b = blocks_hold (length es) in
      let s = size_some k in
      length_node k x (omega arith) ∙ omega arith

  -- of no events there is no byte, and of others the top node is the index
  pub index_none : length es ≡ 0 → index_bytes l xs es ≡ []
  unfolding index_bytes
  index_none h = rw (eq-eqb (length es) 0 h)

  pub index_node : 0 < length es → index_bytes l xs es ≡ node_bytes l xs es top_level 0
  unfolding index_bytes
  index_node h = rw (ne_eqb (length es) 0 (λ e. omega arith))

  pub length_index : length es ≤ most_events → length (index_bytes l xs es) ≡ index_length (length es)
  unfolding index_length
  length_index h =
      let b = blocks_hold (length es) in
      by_cases (le_or (length es) 0)
      (λ g. rw (index_none (omega arith), eq-eqb (length es) 0 (omega arith)))
      (λ g. rw (index_node g, ne_eqb (length es) 0 (λ e. omega arith)) (omega (arith, length_node top_level 0 (omega arith), size_top)))
