-- The levels of document 02's own words are the nodes: the i-th summary of a level is that of the node from its i-th stretch of blocks on, and one is left at the top.
-- Assumes nothing.
use Prim.Native.Nat.{ℕ, zero, suc, ◌+◌, ◌-◌, ◌*◌, ◌≤◌, ◌<◌, min}
use mathlib.Core.Bool.{true}
use mathlib.Core.List.{List, [], ◌∷◌, ◌++◌}
use mathlib.Core.Logic.{◌↔◌}
use mathlib.Core.Path.{◌≡◌, sym, ap, ◌∙◌}
use native.Mathlib.Omega.{arith}
use native.Mathlib.Nat.{zero-add, mul-suc}
use native.Mathlib.Numerals.{add-one}
use lib.ListN.{length, take, drop, get_or, length-take, length-drop, take-append-drop}
use lib.Seq.{take-add, take_all, drop-drop}
use Rattle.decide.proofs.Cases.{by_cases, le_or, min_is}
use Rattle.shaper.specs.declared.Limits.{Limits}
use Rattle.shaper.specs.declared.Event.{Event}
use Rattle.shaper.specs.Limits.{most_events}
use Rattle.shaper.specs.Credit.{AllValid}
use Rattle.summary.specs.declared.Summary.{Summary}
use Rattle.summary.specs.Summary.{summary_of, joined}
use Rattle.summary.specs.Range.{in_range}
use Rattle.std.specs.Prelude.{Ok}
use Rattle.summary.specs.Answer.{join_of}
use Rattle.summary.proofs.Promises.{joins_few, join_append, summary_limits, summary_events, summary_range}
use Rattle.record.specs.Record.{WellFormed}
use Rattle.account.proofs.Pieces.{valid_left}
use Rattle.index.specs.Tree.{block_events, top_level, blocks_of, size_of, from_of, to_of}
use Rattle.index.specs.Index.{piece_of, node_summary}
use Rattle.index.specs.Levels.{blocks_from, paired, level_of}
use Rattle.index.proofs.Sizes.{size_next, size_top}

-- ---- stretches of events

-- two stretches, one behind the other, are one
pub piece_append : (es : List Event) (a b c : ℕ) → a ≤ b → b ≤ c → piece_of es a b ++ piece_of es b c ≡ piece_of es a c
piece_append es a b c h k =
    let e : c - a ≡ (b - a) + (c - b) = omega arith in
    let d : a + (b - a) ≡ b = omega arith in
    rw (e, take-add, drop-drop, d)

pub piece_length : (es : List Event) (a b : ℕ) → length (piece_of es a b) ≡ min b (length es) - a
piece_length es a b = simp (length-take, length-drop) (omega arith)

-- what would reach past the last event ends with it
pub piece_cut : (es : List Event) (a b : ℕ) → piece_of es a (min b (length es)) ≡ piece_of es a b
piece_cut es a b =
    by_cases (min_is b (length es)) (λ m. rw m.1)
    (λ m. rw m.1 (all (length es - a) (omega arith) ∙ sym (all (b - a) (omega arith))))
  where
    all : (n : ℕ) → length es ≤ n + a → take n (drop a es) ≡ drop a es
    all n h = take_all n (drop a es) (simp length-drop (omega arith))

-- events in range: those of a stretch are
valid_drop : (l : Limits) (n : ℕ) (es : List Event) → AllValid l es → AllValid l (drop n es)
valid_drop l zero es v = v
valid_drop l (suc n) [] v = tt
valid_drop l (suc n) (e ∷ es) v = valid_drop l n es v.1

pub piece_valid : (l : Limits) (es : List Event) (a b : ℕ) → AllValid l es → AllValid l (piece_of es a b)
piece_valid l es a b v =
    let t : AllValid l (take (b - a) (drop a es) ++ drop (b - a) (drop a es)) = rw take-append-drop (valid_drop l a es v) in
    valid_left l (take (b - a) (drop a es)) (drop (b - a) (drop a es)) t

-- ---- a node and those below it

-- the summary of a node, without the cut at the last event
pub node_uncut : (l : Limits) (es : List Event) (k x : ℕ) → node_summary l es k x ≡ summary_of l (piece_of es (from_of x) (block_events * (x + size_of k)))
node_uncut l es k x = ap (summary_of l) (piece_cut es (from_of x) (block_events * (x + size_of k)))

-- two nodes on is one of the node above
twice : (k x : ℕ) → (x + size_of k) + size_of k ≡ x + size_of (suc k)
twice k x = omega (arith, size_next k)

-- an odd one alone: the node above it has the same summary
pub node_alone : (l : Limits) (es : List Event) (k x : ℕ) → length es ≤ block_events * (x + size_of k) → node_summary l es (suc k) x ≡ node_summary l es k x
node_alone l es k x h =
    let e : min (block_events * (x + size_of (suc k))) (length es) ≡ min (block_events * (x + size_of k)) (length es) = omega (arith, size_next k) in
    rw e

module _ (l : Limits) (es : List Event) (w : WellFormed l es) where
  -- two stretches side by side: the code joins their summaries to that of both
  pieces_join : (a b c : ℕ) → a ≤ b → b ≤ c → join_of (summary_of l (piece_of es a b)) (summary_of l (piece_of es b c)) ≡ Ok (summary_of l (piece_of es a c))
  pieces_join a b c h k =
      let p = piece_length es a b in
      let q = piece_length es b c in
      join_append l w.settings (piece_of es a b) (piece_of es b c) (piece_valid l es a b w.valid) (piece_valid l es b c w.valid) (omega (arith, w.few))
      ∙ ap (λ (ds : List Event). Ok (summary_of l ds)) (piece_append es a b c h k)

  -- and so those of two nodes to that of the node above,
  pub node_joins : (k x : ℕ) → join_of (node_summary l es k x) (node_summary l es k (x + size_of k)) ≡ Ok (node_summary l es (suc k) x)
  node_joins k x =
      rw (node_uncut l es k x, node_uncut l es k (x + size_of k), node_uncut l es (suc k) x, twice k x)
      (pieces_join (from_of x) (from_of (x + size_of k)) (block_events * (x + size_of (suc k))) (omega arith) (omega (arith, size_next k)))

  -- what its summary says: the record's settings, as many events as it covers, all in range
  pub node_limits : (k x : ℕ) → (node_summary l es k x).limits ≡ l
  node_limits k x = summary_limits l w.settings _

  pub node_events : (k x : ℕ) → (node_summary l es k x).events ≡ to_of (length es) k x - from_of x
  node_events k x =
      summary_events l w.settings (piece_of es (from_of x) (to_of (length es) k x)) ∙ omega (arith, piece_length es (from_of x) (to_of (length es) k x))

  pub node_range : (k x : ℕ) → in_range (node_summary l es k x) ≡ true
  node_range k x =
      let to = to_of (length es) k x in
      summary_range l w.settings (piece_of es (from_of x) to) (piece_valid l es (from_of x) to w.valid) (omega (arith, w.few, piece_length es (from_of x) to))

  -- which is their join by its own definition too
  pub node_joined : (k x : ℕ) → joined (node_summary l es k x) (node_summary l es k (x + size_of k)) ≡ node_summary l es (suc k) x
  node_joined k x =
      let next = x + size_of k in
      let few : (node_summary l es k x).events + (node_summary l es k next).events ≤ most_events = omega (arith, w.few, node_events k x, node_events k next) in
      let both = joins_few (node_summary l es k x) (node_summary l es k next) (node_range k x) (node_range k next) (node_limits k x ∙ sym (node_limits k next)) few in
      let above = node_joins k x in
      cc

-- ---- the levels

-- these summaries are those of the nodes of level k from block x on, to the last
abbrev Nodes : Limits → List Event → ℕ → ℕ → List Summary → Type 0
Nodes l es k x [] = length es ≤ from_of x
Nodes l es k x (s ∷ ss) = (from_of x < length es) × (s ≡ node_summary l es k x) × Nodes l es k (x + size_of k) ss

blocks_nodes : (l : Limits) (es : List Event) (b x : ℕ) → x + b ≡ blocks_of (length es) → Nodes l es 0 x (blocks_from l es x b)
unfolding blocks_from blocks_of size_of
blocks_nodes l es zero x h = omega arith
blocks_nodes l es (suc b) x h =
    (omega arith, sym (node_uncut l es 0 x), rw (add-one x) (blocks_nodes l es b (suc x) (omega arith)))

module _ (l : Limits) (es : List Event) (w : WellFormed l es) where
  -- one for each pair (an odd one alone) are the nodes of the level above
  nodes_paired : (k x : ℕ) (ss : List Summary) → Nodes l es k x ss → Nodes l es (suc k) x (paired ss)
  unfolding paired
  nodes_paired k x [] h = h
  nodes_paired k x (a ∷ []) h = (h.0, h.1 ∙ sym (node_alone l es k x h.2), omega (arith, size_next k, h.2))
  nodes_paired k x (a ∷ b ∷ more) h =
      (h.0, rw (h.1, h.2.1) (node_joined l es w k x), nodes_paired k (x + size_of (suc k)) more (rw (twice k x) at h.2.2))

  level_nodes : (k : ℕ) → Nodes l es k 0 (level_of l es k)
  unfolding level_of
  level_nodes zero = blocks_nodes l es (blocks_of (length es)) 0 (omega arith)
  level_nodes (suc k) = nodes_paired k 0 (level_of l es k) (level_nodes k)

-- the i-th of them is the node's that is so many steps on, where there is one
module _ (l : Limits) (es : List Event) (k : ℕ) where
  nodes_nth : (i x : ℕ) (ss : List Summary) (d : Summary) → Nodes l es k x ss → from_of (x + size_of k * i) < length es →
      (i < length ss) × (get_or ss i d ≡ node_summary l es k (x + size_of k * i))
  nodes_nth i x [] d h n = absurd (omega arith)
  nodes_nth zero x (s ∷ ss) d h n =
      let e : x + size_of k * 0 ≡ x = omega arith in
      (omega arith, rw e h.1)
  nodes_nth (suc i) x (s ∷ ss) d h n =
      let e : x + size_of k * suc i ≡ (x + size_of k) + size_of k * i = omega (arith, mul-suc (size_of k) i) in
      let r = nodes_nth i (x + size_of k) ss d h.2 (rw e at n) in
      (omega (arith, r.0), rw e r.1)

  nodes_count : (i x : ℕ) (ss : List Summary) → Nodes l es k x ss → i < length ss → from_of (x + size_of k * i) < length es
  nodes_count i x [] h n = absurd (omega arith)
  nodes_count zero x (s ∷ ss) h n = omega (arith, h.0)
  nodes_count (suc i) x (s ∷ ss) h n = omega (arith, mul-suc (size_of k) i, nodes_count i (x + size_of k) ss h.2 (omega arith))

-- A level has a summary for each node that covers some event, in order.
module _ (l : Limits) (es : List Event) (w : WellFormed l es) (k i : ℕ) where
  pub level_nth : from_of (size_of k * i) < length es → (d : Summary) → get_or (level_of l es k) i d ≡ node_summary l es k (size_of k * i)
  level_nth h d =
      let n : from_of (0 + size_of k * i) < length es = omega arith in
      rw zero-add at (nodes_nth l es k i 0 (level_of l es k) d (level_nodes l es w k) n).1

  pub level_length : (i < length (level_of l es k)) ↔ (from_of (size_of k * i) < length es)
  level_length = (
    λ h. rw zero-add at (nodes_count l es k i 0 (level_of l es k) (level_nodes l es w k) h),
    λ h. (nodes_nth l es k i 0 (level_of l es k) (node_summary l es k 0) (level_nodes l es w k) (rw zero-add h)).0,
  )

-- One is left at the top.
pub one_left : (l : Limits) (es : List Event) → WellFormed l es → length (level_of l es top_level) ≤ 1
one_left l es w =
    by_cases (le_or (length (level_of l es top_level)) 1) (λ h. h)
    (λ h. absurd (omega (arith, w.few, size_top, (level_length l es w top_level 1).0 h)))
