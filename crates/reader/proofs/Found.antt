-- Where a reader finds what was written: each item at its own place, and behind the last one the end, or what is wrong there.
-- Assumes nothing.
use Prim.Native.Nat.{ℕ, suc, ◌+◌, ◌*◌, ◌<◌, ◌≤◌}
use mathlib.Core.Bool.{true}
use mathlib.Core.List.{List, [], ◌∷◌, ◌++◌, append_assoc, append-nil}
use mathlib.Core.Path.{◌≡◌, sym, ap, ◌∙◌}
use native.Mathlib.Omega.{arith}
use lib.ListN.{length, length-append}
use Rattle.std.specs.Prelude.{Some, None, Ok, Err}
use Rattle.decide.specs.declared.refusal.Refusal.{Refusal}
use Rattle.decide.specs.Number.{refusal_of}
use Rattle.shaper.specs.declared.Limits.{Limits}
use Rattle.shaper.specs.declared.Event.{Event}
use Rattle.shaper.specs.Limits.{most_events}
use Rattle.shaper.specs.Credit.{Valid}
use Rattle.shaper.specs.Kind.{kind_of, number_of}
use Rattle.record.specs.Record.{header_bytes, event_bytes, written, WellFormed}
use Rattle.record.specs.Items.{Item, one, item_bytes, items_bytes, written_items, unrolled_item, unrolled, ItemOk, Formed}
use Rattle.record.specs.Step.{placed, header_of_of, step_at}
use Rattle.record.proofs.Written.{length_written, items_append, header_back, ones, ones_unrolled, ones_formed, ones_written, length_event}
use Rattle.reader.specs.declared.Place.{Place}
use Rattle.reader.specs.Place.{next_at}
use Rattle.reader.proofs.Rows.{next_item, next_passes, next_faulty, next_over, next_end}
use Rattle.reader.proofs.There.{event_in, stands_there, fault_there, item_there}

-- ---- behind the items of a written record, in either form

-- the place behind them: behind their bytes, their events being passed
abbrev pub place_behind : Limits → List Item → Place
place_behind l is = record { at = length (written_items l is); done = length (unrolled is) }

-- one item more
behind_one : (l : Limits) (is : List Item) (i : Item) → length (written_items l is) + length (item_bytes i) ≡ (place_behind l (is ++ (i ∷ []))).at
behind_one l is i = rw (items_append is (i ∷ []), append-nil, ← append_assoc, length-append (written_items l is) (item_bytes i))

module _ (l : Limits) (is : List Item) (w : Formed true l is) where
  headed : (q : List ℕ) → header_of_of (written_items l is ++ q) ≡ Ok l
  headed q = ap header_of_of (append_assoc (header_bytes l) (items_bytes is) q) ∙ header_back l w.settings (items_bytes is ++ q)

  -- Each item is found at its place, whatever stands behind it: its event, and how many times.
  pub found_item : (i : Item) (q : List ℕ) → ItemOk true l i → length (unrolled is) + length (unrolled_item i) ≤ most_events →
      next_at (written_items l is ++ (item_bytes i ++ q)) (place_behind l is)
      ≡ Ok (Some (placed (kind_of (event_in i)) (number_of (event_in i)) (length (unrolled_item i)) (place_behind l (is ++ (i ∷ []))).at))
  found_item i q v few =
      next_item (written_items l is ++ (item_bytes i ++ q)) (place_behind l is) l (headed (item_bytes i ++ q)) _ _ _ _
      (item_there l w.settings (written_items l is) q i v) few
      ∙ ap (λ next. Ok (Some (placed (kind_of (event_in i)) (number_of (event_in i)) (length (unrolled_item i)) next))) (behind_one l is i)

  -- The end is found behind the last.
  pub found_items_end : next_at (written_items l is) (place_behind l is) ≡ Ok None
  found_items_end = next_end (written_items l is) (place_behind l is) l (header_back l w.settings (items_bytes is)) (omega arith)

  -- A fault is found behind the items before it,
  pub found_items_faulty : (q : List ℕ) (r : Refusal) → length (unrolled is) < most_events → step_at l.mtu q 0 ≡ Err r → next_at (written_items l is ++ q) (place_behind l is) ≡ Err r
  found_items_faulty q r few e =
      next_faulty (written_items l is ++ q) (place_behind l is) l (headed q) r (fault_there l.mtu (written_items l is) q r e) few

  -- any byte after the millionth event gives 9,
  pub found_items_over : (q : List ℕ) → length (unrolled is) ≡ most_events → 0 < length q → next_at (written_items l is ++ q) (place_behind l is) ≡ Err (refusal_of 9)
  found_items_over q e h =
      next_over (written_items l is ++ q) (place_behind l is) l (headed q) (omega arith) (omega (arith, length-append (written_items l is) q))

  -- and so does a run that passes it.
  pub found_items_passes : (q : List ℕ) (k v c next : ℕ) → step_at l.mtu q 0 ≡ Ok (Some (placed k v c next)) → most_events < length (unrolled is) + c →
      next_at (written_items l is ++ q) (place_behind l is) ≡ Err (refusal_of 9)
  found_items_passes q k v c next e many =
      next_passes (written_items l is ++ q) (place_behind l is) l (headed q) k v c (length (written_items l is) + next)
      (stands_there l.mtu (written_items l is) q k v c next e) many

-- ---- behind the events of a record of the old form

-- the place behind so many events
abbrev pub place_at : ℕ → Place
place_at n = record { at = 14 + 6 * n; done = n }

place_ones : (l : Limits) (es : List Event) → place_behind l (ones es) ≡ place_at (length es)
place_ones l es = rw (ones_written l es, length_written l es, ones_unrolled es)

module _ (l : Limits) (es : List Event) (w : WellFormed l es) where
  -- the same record of events and of items
  old : (q : List ℕ) → next_at (written_items l (ones es) ++ q) (place_behind l (ones es)) ≡ next_at (written l es ++ q) (place_at (length es))
  old q = rw (place_ones l es, ones_written l es)

  -- Each event is found at its place, whatever stands behind it.
  pub found_event : (e : Event) (q : List ℕ) → Valid l e → length es < most_events →
      next_at (written l es ++ (event_bytes e ++ q)) (place_at (length es)) ≡ Ok (Some (placed (kind_of e) (number_of e) 1 (place_at (suc (length es))).at))
  found_event e q v few =
      sym (old (event_bytes e ++ q))
      ∙ found_item l (ones es) (ones_formed true l es w) (one e) q v (rw (ones_unrolled es) (omega arith))
      ∙ ap (λ next. Ok (Some (placed (kind_of e) (number_of e) 1 next))) (sym (behind_one l (ones es) (one e)) ∙ rw (ones_written l es) (omega (arith, length_written l es, length_event e)))

  -- The end is found behind the last.
  pub found_end : next_at (written l es) (place_at (length es)) ≡ Ok None
  found_end = rw (← ones_written l es, ← place_ones l es) (found_items_end l (ones es) (ones_formed true l es w))

  -- A fault is found behind the events before it,
  pub found_faulty : (q : List ℕ) (r : Refusal) → length es < most_events → step_at l.mtu q 0 ≡ Err r → next_at (written l es ++ q) (place_at (length es)) ≡ Err r
  found_faulty q r few e = sym (old q) ∙ found_items_faulty l (ones es) (ones_formed true l es w) q r (rw (ones_unrolled es) few) e

  -- and any byte after the millionth event gives 9.
  pub found_over : (q : List ℕ) → length es ≡ most_events → 0 < length q → next_at (written l es ++ q) (place_at (length es)) ≡ Err (refusal_of 9)
  found_over q e h = sym (old q) ∙ found_items_over l (ones es) (ones_formed true l es w) q (rw (ones_unrolled es) e) h
