-- A question of a record and of its own index: the answer is the summary of just the stretch, read afresh.
-- Assumes nothing.
use Prim.Native.Nat.{ℕ, zero, suc, ◌+◌, ◌-◌, ◌*◌, ◌≤◌, ◌<◌, min, max}
use mathlib.Core.Bool.{true, false}
use mathlib.Core.List.{List, [], ◌∷◌}
use mathlib.Core.Logic.{◌⊎◌, inl, inr}
use mathlib.Core.Path.{◌≡◌, sym, ap, ◌∙◌}
use native.Mathlib.Omega.{arith}
use borrow.Author.Tests.{le-leb, eq-eqb, ne_eqb}
use lib.ListN.{length, take, drop}
use lib.Seq.{take-nil, drop-nil, drop-drop}
use Rattle.decide.proofs.Cases.{by_cases, le_or}
use Rattle.wire.specs.Wire.{Bytes}
use Rattle.wire.proofs.Places.{Stands}
use Rattle.shaper.specs.declared.Limits.{Limits}
use Rattle.shaper.specs.declared.Event.{Event}
use Rattle.summary.specs.Summary.{empty_of, summary_of}
use Rattle.std.specs.Prelude.{Ok, Err}
use Rattle.decide.specs.Number.{refusal_of}
use Rattle.summary.specs.Answer.{join_of}
use Rattle.summary.proofs.Promises.{join_append}
use Rattle.record.specs.Record.{written, WellFormed}
use Rattle.record.specs.Items.{Item, written_items, unrolled, Formed}
use Rattle.record.specs.Read.{whole, read_in}
use Rattle.account.specs.Account.{summarize_of}
use Rattle.account.proofs.Promises.{summarize_items, summarize_written}
use Rattle.index.specs.Tree.{block_events, entry_length, top_level, blocks_of, index_length, size_of, from_of, to_of, stands_at}
use Rattle.index.specs.Entry.{place_in}
use Rattle.index.specs.Index.{piece_of, place_of, node_summary, node_entry, index_bytes}
use Rattle.index.proofs.Sizes.{size_some, size_next, size_block, size_top}
use Rattle.index.proofs.Nodes.{blocks_hold, length_index}
use Rattle.index.proofs.Stands.{stands_block, index_stands}
use Rattle.index.proofs.Back.{entry_summary, entry_place}
use Rattle.index.proofs.Levels.{piece_append, piece_length, piece_valid, node_limits, node_events, node_range}
use Rattle.index.proofs.Whole.{whole_headed, whole_formed, part_whole, left_field, place_near, length_whole, place_fits}
use Rattle.stretch.specs.declared.Found.{Found}
use Rattle.stretch.specs.declared.Found.TheVariants.{Nothing, Sum}
use Rattle.stretch.specs.Found.{Source, source_of, joined_found, and_found, entry_found, part_found, apart, found_in}
use Rattle.stretch.specs.Stretch.{length_ok, last_block, last_place, last_events, belongs, events_counted, found_answer, stretch_of}
use Rattle.stretch.proofs.Facts.{whole_facts, apart_facts, not_apart}
use Rattle.stretch.proofs.Rows.{by_halves, found_apart, found_whole, found_part, found_both}
use Rattle.stretch.proofs.Halves.{and_nothing_right}
use Rattle.stretch.proofs.Exactly.{Fits, length_ok_exactly, stretched_none, stretched_some, row_past, row_found}

-- ---- pieces

-- the events from a later one on
drop_take : (n m : ℕ) (es : List Event) → drop n (take m es) ≡ take (m - n) (drop n es)
drop_take zero m es = let z : m - 0 ≡ m = omega arith in rw z
drop_take (suc n) m [] = simp (take-nil, drop-nil)
drop_take (suc n) zero (e ∷ es) = let z : 0 - suc n ≡ 0 = omega arith in rw z
drop_take (suc n) (suc m) (e ∷ es) = let z : suc m - suc n ≡ m - n = omega arith in rw z (drop_take n m es)

piece_from : (es : List Event) (a skipped count : ℕ) → drop skipped (piece_of es a (a + count)) ≡ piece_of es (a + skipped) (a + count)
piece_from es a skipped count =
    let y : a + count - a - skipped ≡ a + count - (a + skipped) = omega arith in
    drop_take skipped (a + count - a) (drop a es) ∙ rw (drop-drop, y)

pub piece_formed : (l : Limits) (es : List Event) → WellFormed l es → (a b : ℕ) → WellFormed l (piece_of es a b)
piece_formed l es w a b = record { settings = w.settings; valid = piece_valid l es a b w.valid; few = omega (arith, w.few, piece_length es a b) }

-- of no event the summary is the empty one
piece_none : (l : Limits) (es : List Event) (a b : ℕ) → b ≤ a → summary_of l (piece_of es a b) ≡ empty_of l
unfolding summary_of
piece_none l es a b h = let z : b - a ≡ 0 = omega arith in rw z

-- two pieces, one behind the other
pieces_joined : (l : Limits) (es : List Event) → WellFormed l es → (a b c : ℕ) → a ≤ b → b ≤ c →
    join_of (summary_of l (piece_of es a b)) (summary_of l (piece_of es b c)) ≡ Ok (summary_of l (piece_of es a c))
pieces_joined l es w a b c h k =
    let p = piece_formed l es w a b in
    let q = piece_formed l es w b c in
    rw (← piece_append es a b c h k) (join_append l w.settings (piece_of es a b) (piece_of es b c) p.valid q.valid (omega (arith, piece_length es a b, piece_length es b c, w.few)))

-- from one event on so many are left to another
there_again : (a b : ℕ) → a ≤ b → a + (b - a) ≡ b
there_again a b h = omega arith

-- What a part of a stretch comes to is the summary of its events, from one to just before another; nothing only where there are none.
data Comes (l : Limits) (es : List Event) (f : Found) (from to : ℕ) : Type 0 where
  none : f ≡ Nothing → to ≤ from → Comes l es f from to
  sum : f ≡ Sum (summary_of l (piece_of es from to)) → from ≤ to → Comes l es f from to

-- Two parts: where both have events the one ends at b where the other begins, and where one has none the other has all.
module _ (l : Limits) (es : List Event) (w : WellFormed l es) (f g : Found) (a b c d : ℕ) (left : b ≤ a → c ≤ d → a ≡ c) (right : a ≤ b → d ≤ c → b ≡ d) (both : a ≤ b → c ≤ d → b ≡ c) (neither : b ≤ a → d ≤ c → d ≤ a) where
  comes_both : Comes l es f a b → Comes l es g c d → Comes l es (and_found f g) a d
  unfolding and_found
  comes_both (none p m) (none r n) = none (rw (p, r)) (neither m n)
  comes_both (none p m) (sum r n) = let e = left m n in rw (p, e) (sum r n)
  comes_both (sum p m) (none r n) = let e = right m n in rw (r, ← e) (sum (and_nothing_right f ∙ p) m)
  comes_both (sum p m) (sum r n) = let e = both m n in sum (rw (p, r, ← e) (ap joined_found (pieces_joined l es w a b d m (omega arith)))) (omega arith)

comes_sum : (l : Limits) (es : List Event) (f : Found) (from to : ℕ) → Comes l es f from to → from < to → f ≡ Sum (summary_of l (piece_of es from to))
comes_sum l es f from to (none p m) some = absurd (omega arith)
comes_sum l es f from to (sum p m) some = p

comes_answer : (l : Limits) (es : List Event) (f : Found) (from to : ℕ) → Comes l es f from to → found_answer l f ≡ Ok (summary_of l (piece_of es from to))
comes_answer l es f from to (none p m) = rw p (ap Ok (sym (piece_none l es from to m)))
comes_answer l es f from to (sum p m) = rw p

module _ (xs : List ℕ) (l : Limits) (es : List Event) (h : read_in true xs ≡ whole l es) (b : Bytes xs) where
  formed : WellFormed l es
  formed = whole_formed xs l es b h

  abbrev own : List ℕ
  own = index_bytes l xs es

  abbrev here : Source
  here = source_of l xs own (length es)

  -- ---- one entry, and one block

  entry_stands : (k i x : ℕ) → x ≡ size_of k * i → k ≤ top_level → from_of x < length es → Stands own (entry_length * stands_at (length es) k x) (node_entry l xs es k x)
  entry_stands k i x e low some = rw e (index_stands l xs es k i low formed.few (rw e at some))

  pub entry_afresh : (k i x : ℕ) → x ≡ size_of k * i → k ≤ top_level → from_of x < length es →
      entry_found (source_of l xs (index_bytes l xs es) (length es)) (stands_at (length es) k x) (to_of (length es) k x - from_of x) ≡ Sum (node_summary l es k x)
  unfolding entry_found
  entry_afresh k i x e low some =
      let s = entry_summary l own (entry_length * stands_at (length es) k x) (place_of xs (from_of x)) (node_summary l es k x) (node_limits l es formed k x) (node_range l es formed k x) (entry_stands k i x e low some) in
      rw (s, eq-eqb (node_summary l es k x).events (to_of (length es) k x - from_of x) (node_events l es formed k x), node_range l es formed k x)

  -- the place of a block's first event
  block_place : (x : ℕ) → from_of x < length es → place_in own (80 * x) ≡ place_of xs (from_of x)
  block_place x some =
      let f = place_fits xs l es h (from_of x) (omega arith) in
      let z : entry_length * stands_at (length es) 0 x ≡ 80 * x = omega (arith, stands_block (length es) x) in
      rw z at (entry_place own (entry_length * stands_at (length es) 0 x) (place_of xs (from_of x)) (node_summary l es 0 x) (entry_stands 0 x x (omega (arith, ap (λ s. s * x) size_block)) (omega arith) some) f.0 f.1)

  pub part_afresh : (x skipped count : ℕ) → from_of x < length es → from_of x + count ≤ length es →
      part_found (source_of l xs (index_bytes l xs es) (length es)) x skipped count ≡ Sum (summary_of l (piece_of es (from_of x + skipped) (from_of x + count)))
  unfolding part_found
  part_afresh x skipped count some within =
      rw (block_place x some, part_whole xs l es h (from_of x) count within) (ap (λ fs. Sum (summary_of l fs)) (piece_from es (from_of x) skipped count))

  -- ---- the stretch

  module _ (first last : ℕ) (ahead : first ≤ last) (within : last ≤ length es) where
    abbrev ComesIn : ℕ → ℕ → Type 0
    ComesIn k x = Comes l es (found_in here first last k x) (max first (from_of x)) (min last (to_of (length es) k x))

    comes : (k x i : ℕ) → x ≡ size_of k * i → k ≤ top_level → ComesIn k x
    comes =
        by_halves (length es) first last (λ k x. (i : ℕ) → x ≡ size_of k * i → k ≤ top_level → ComesIn k x)
        (λ k x a i e low. none (found_apart here first last k x a) (by_cases (apart_facts (length es) first last k x a) (λ o. omega arith) (λ o. omega arith)))
        (λ k x a w i e low.
        let f = not_apart (length es) first last k x a in
        let g = whole_facts (length es) first last k x w in
        let c : max first (from_of x) ≡ from_of x = omega arith in
        let d : min last (to_of (length es) k x) ≡ to_of (length es) k x = omega arith in
        rw (c, d) (sum (found_whole here first last k x a w ∙ entry_afresh k i x e low (omega arith)) (omega (arith, size_some k))))
        (λ x a w i e low.
        let f = not_apart (length es) first last 0 x a in
        let s = size_block in
        let c = there_again (from_of x) (max first (from_of x)) (omega arith) in
        let d = there_again (from_of x) (min last (to_of (length es) 0 x)) (omega arith) in
        sum
        (found_part here first last x a w
        ∙ part_afresh x (max first (from_of x) - from_of x) (min last (to_of (length es) 0 x) - from_of x) (omega arith) (rw d (omega arith))
        ∙ rw (c, d))
        (omega arith))
        (λ k x a w f g i e low.
        let s = rw (size_next k) at e in
        let z : x + size_of (suc k) ≡ x + size_of k + size_of k = omega (arith, size_next k) in
        let o = size_some k in
        rw (found_both here first last k x a w, z)
        (comes_both l es formed (found_in here first last k x) (found_in here first last k (x + size_of k)) (max first (from_of x)) (min last (to_of (length es) k x)) (max first (from_of (x + size_of k)))
        (min last (to_of (length es) k (x + size_of k))) (λ m n. omega arith) (λ m n. omega arith) (λ m n. omega arith) (λ m n. omega arith)
        (f (2 * i) (omega arith) (omega arith)) (g (2 * i + 1) (omega arith) (omega arith))))

    -- the part of the stretch in a node that is not apart from it
    pub found_afresh : first < last → (k i x : ℕ) → x ≡ size_of k * i → k ≤ top_level → apart (length es) first last k x ≡ false →
        found_in (source_of l xs (index_bytes l xs es) (length es)) first last k x ≡ Sum (summary_of l (piece_of es (max first (from_of x)) (min last (to_of (length es) k x))))
    found_afresh some k i x e low a =
        let f = not_apart (length es) first last k x a in
        comes_sum l es _ _ _ (comes k x i e low) (omega (arith, size_some k))

    comes_top : Comes l es (found_in here first last top_level 0) first last
    comes_top =
        let t = size_top in
        let m = formed.few in
        let c : max first (from_of 0) ≡ first = omega arith in
        let d : min last (to_of (length es) top_level 0) ≡ last = omega arith in
        rw (c, d) at (comes top_level 0 0 (omega arith) (omega arith))

    pub all_afresh : first < last → found_in (source_of l xs (index_bytes l xs es) (length es)) first last top_level 0 ≡ Sum (summary_of l (piece_of es first last))
    all_afresh some = comes_sum l es _ first last comes_top some

    answer_afresh : found_answer l (found_in here first last top_level 0) ≡ Ok (summary_of l (piece_of es first last))
    answer_afresh = comes_answer l es _ first last comes_top

  -- ---- how many events there are

  -- of some events: the last block holds 1 to 256 of them
  module _ (some : 0 < length es) where
    index_long : length own + 40 ≡ 80 * blocks_of (length es)
    unfolding index_length
    index_long = let c = blocks_hold (length es) in rw (length_index l xs es formed.few, ne_eqb (length es) 0 (λ z. omega arith)) (omega arith)

    block_there : (from_of (last_block own) < length es) × (length es ≤ from_of (last_block own) + block_events)
    block_there = let c = blocks_hold (length es) in let m = index_long in (omega arith, omega arith)

    last_place_lem : last_place own ≡ place_of xs (from_of (last_block own))
    unfolding last_place
    last_place_lem = block_place (last_block own) block_there.0

    last_events_lem : last_events xs own ≡ length es - from_of (last_block own)
    unfolding last_events
    last_events_lem = let t = block_there in rw last_place_lem (left_field xs l es h block_events (from_of (last_block own)) (omega arith) (omega arith))

    not_empty : length own ≡ 0 → ⊥
    not_empty z = omega (arith, index_long)

    some_belongs : belongs xs own ≡ true
    unfolding belongs
    some_belongs =
        let t = block_there in
        let left = length es - from_of (last_block own) in
        rw (ne_eqb (length own) 0 not_empty, last_events_lem, last_place_lem, le-leb 1 left (omega arith), le-leb left block_events (omega arith), le-leb _ _ (place_near xs l es h (from_of (last_block own)) (omega arith)))

    some_counted : events_counted xs own ≡ length es
    unfolding events_counted
    some_counted = let t = block_there in rw (ne_eqb (length own) 0 not_empty, last_events_lem) (omega arith)

  -- of none: no byte
  module _ (none : length es ≡ 0) where
    index_empty : length own ≡ 0
    unfolding index_length
    index_empty = rw (length_index l xs es formed.few, eq-eqb (length es) 0 none)

    none_belongs : belongs xs own ≡ true
    unfolding belongs
    none_belongs = rw (eq-eqb (length own) 0 index_empty) (le-leb (length xs) 14 (omega (arith, length_whole xs l es h)))

    none_counted_lem : events_counted xs own ≡ length es
    unfolding events_counted
    none_counted_lem = rw (eq-eqb (length own) 0 index_empty) (sym none)

  pub counted_afresh : (length_ok (length (index_bytes l xs es)) ≡ true) × (belongs xs (index_bytes l xs es) ≡ true) × (events_counted xs (index_bytes l xs es) ≡ length es)
  counted_afresh =
      by_cases (le_or (length es) 0)
      (λ z. let e : length es ≡ 0 = omega arith in ((length_ok_exactly (length own)).1 (inl (index_empty e)), none_belongs e, none_counted_lem e))
      (λ z. ((length_ok_exactly (length own)).1 (inr (blocks_of (length es) - 1, omega (arith, index_long z))), some_belongs z, some_counted z))

  -- so neither 2 nor 1 nor 9 applies
  pub fits_afresh : Fits l xs (index_bytes l xs es)
  fits_afresh = let c = counted_afresh in record { header = whole_headed xs l es h; long = c.0; own = c.1; few = omega (arith, formed.few) }

  -- ---- the answer

  -- the summary of just the stretch
  pub stretch_afresh : (first last : ℕ) → first ≤ last → last ≤ length es → stretch_of xs (index_bytes l xs es) first last ≡ Ok (summary_of l (piece_of es first last))
  stretch_afresh first last ahead within =
      let c = counted_afresh.2 in
      rw c at (row_found l xs own fits_afresh first last ahead (rw c within))
      ∙ by_cases (le_or last first)
      (λ none. ap (found_answer l) (stretched_none here first last none) ∙ ap Ok (sym (piece_none l es first last (omega arith))))
      (λ some. ap (found_answer l) (stretched_some here first last some) ∙ answer_afresh first last ahead within)

  -- and so that of the piece read afresh: its header followed by its events,
  pub stretch_written : (first last : ℕ) → first ≤ last → last ≤ length es → stretch_of xs (index_bytes l xs es) first last ≡ summarize_of (written l (piece_of es first last))
  stretch_written first last ahead within = stretch_afresh first last ahead within ∙ sym (summarize_written true l (piece_of es first last) (piece_formed l es formed first last))

  -- or by any items that stand for them
  pub stretch_items : (first last : ℕ) → first ≤ last → last ≤ length es → (is : List Item) → Formed true l is → unrolled is ≡ piece_of es first last →
      stretch_of xs (index_bytes l xs es) first last ≡ summarize_of (written_items l is)
  stretch_items first last ahead within is f e = stretch_afresh first last ahead within ∙ sym (summarize_items true l is f ∙ ap (λ fs. Ok (summary_of l fs)) e)

  -- of no event the empty summary
  pub empty_stretch : (first : ℕ) → first ≤ length es → stretch_of xs (index_bytes l xs es) first first ≡ Ok (empty_of l)
  empty_stretch first within = stretch_afresh first first (omega arith) within ∙ ap Ok (piece_none l es first first (omega arith))

  -- past the end or backwards
  pub stretch_past : (first last : ℕ) → (last < first) ⊎ (length es < last) → stretch_of xs (index_bytes l xs es) first last ≡ Err (refusal_of 3)
  stretch_past first last o = row_past l xs own fits_afresh first last (by_cases o (λ m. inl m) (λ m. inr (omega (arith, counted_afresh.2))))

-- Records of the same settings and events have the same answers, each from its own index: either form of one too.
pub either_form : (xs ys : List ℕ) (l : Limits) (es : List Event) → read_in true xs ≡ whole l es → read_in true ys ≡ whole l es → Bytes xs → Bytes ys → (first last : ℕ) →
    stretch_of xs (index_bytes l xs es) first last ≡ stretch_of ys (index_bytes l ys es) first last
either_form xs ys l es h k b c first last =
    by_cases (le_or first last)
    (λ m.
    by_cases (le_or last (length es))
    (λ n. stretch_afresh xs l es h b first last m n ∙ sym (stretch_afresh ys l es k c first last m n))
    (λ n. past (inr n)))
    (λ m. past (inl m))
  where
    past : (last < first) ⊎ (length es < last) → stretch_of xs (index_bytes l xs es) first last ≡ stretch_of ys (index_bytes l ys es) first last
    past o = stretch_past xs l es h b first last o ∙ sym (stretch_past ys l es k c first last o)
