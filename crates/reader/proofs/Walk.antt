-- A reader's walk gives the events that the record says, in either form, or the number of its earliest fault.
-- Assumes nothing.
use Prim.Native.Nat.{ℕ, zero, suc, ◌+◌, ◌*◌, ◌-◌, ◌≤◌, ◌<◌}
use mathlib.Core.Bool.{true}
use mathlib.Core.List.{List, [], ◌∷◌, ◌++◌, append_assoc, append-nil}
use mathlib.Core.Path.{◌≡◌, refl, sym, ap, ◌∙◌}
use native.Mathlib.Omega.{arith}
use lib.ListN.{length, drop, replicate, length-append, length-replicate}
use lib.Seq.{drop_at}
use denote.Ref.{Bor}
use Rattle.std.specs.Prelude.{Some, None, Ok, Err}
use Rattle.decide.specs.Test.{Holds}
use Rattle.decide.specs.declared.refusal.Refusal.{Refusal}
use Rattle.decide.specs.Number.{number_in, refusal_of}
use Rattle.shaper.specs.declared.Limits.{Limits}
use Rattle.shaper.specs.declared.Event.{Event}
use Rattle.wire.specs.Wire.{Bytes}
use Rattle.shaper.specs.Limits.{limits_ok, most_events}
use Rattle.shaper.specs.Kind.{kind_of, number_of, event_of}
use Rattle.shaper.proofs.Kind.{event_of_lem}
use Rattle.record.specs.Record.{header_bytes, event_bytes, written, WellFormed}
use Rattle.record.specs.Items.{Item, one, run, run_bytes, item_bytes, items_bytes, written_items, unrolled_item, unrolled, ItemOk, ItemsOk, Formed}
use Rattle.record.specs.Read.{limits_at, Events, faulty, events, ahead, read_from, under, read_record}
use Rattle.record.specs.Step.{Header, Step, placed, header_of_of, step_within}
use Rattle.record.proofs.Steps.{read_by, read_header, header_stands, read_end, stood_within, end_within, failed_within}
use Rattle.record.proofs.Written.{length_header, length_event, length_run, header_back, behind, behind_events, ahead_behind, items_then, ones, ones_unrolled, ones_formed, ones_written}
use Rattle.record.proofs.Wrote.{WroteWhole, read_items_lem, formed_events}
use Rattle.reader.specs.declared.Place.{Place}
use Rattle.reader.specs.declared.Reader.{Reader}
use Rattle.reader.specs.Place.{start, next_at, after}
use Rattle.reader.specs.Walk.{new_of, told, walk_of}
use Rattle.reader.proofs.Rows.{next_unreadable, next_settings, next_item, next_end}
use Rattle.reader.proofs.There.{event_in, item_there}

-- a reader of s at a place
abbrev reader_at : Bor (List ℕ) → Place → Reader
reader_at s p = record { bytes = s; place = p }

-- ---- a turn, by what stands at the place

module _ (s : Bor (List ℕ)) (n : ℕ) (p : Place) where
  turn_end : next_at s.now p ≡ Ok None → walk_of (suc n) (reader_at s p) ≡ events []
  unfolding walk_of
  turn_end e = rw e

  turn_faulty : (r : Refusal) → next_at s.now p ≡ Err r → walk_of (suc n) (reader_at s p) ≡ faulty (number_in r)
  unfolding walk_of
  turn_faulty r e = rw e

  turn_stands : (k v c next : ℕ) → next_at s.now p ≡ Ok (Some (placed k v c next)) →
      walk_of (suc n) (reader_at s p) ≡ told (Ok (Some (placed k v c next))) (walk_of n (reader_at s (after (Ok (Some (placed k v c next))) p)))
  unfolding walk_of
  turn_stands k v c next e = rw e

-- ---- from a place on

-- turns enough from any place on, past the last event that may come, come to what stands there
abbrev Reaches : Bor (List ℕ) → ℕ → ℕ → Type 0
Reaches s mtu n = (p : Place) → p.done ≤ most_events → most_events < p.done + n → walk_of n (reader_at s p) ≡ read_from 9 mtu (most_events - p.done) 0 (drop p.at s.now)

module _ (s : Bor (List ℕ)) (l : Limits) (e : header_of_of s.now ≡ Ok l) where
  one_more : (n : ℕ) → Reaches s l.mtu n → Reaches s l.mtu (suc n)
  one_more n rest p few h = by (step_within (refusal_of 9) (most_events - p.done) l.mtu s.now p.at) refl
    where
      by : (t : Step) → step_within (refusal_of 9) (most_events - p.done) l.mtu s.now p.at ≡ t →
          walk_of (suc n) (reader_at s p) ≡ read_from 9 l.mtu (most_events - p.done) 0 (drop p.at s.now)
      by (Ok None) f =
          turn_end s n p (next_settings s.now p l e ∙ f)
          ∙ sym (read_end true 9 l.mtu (most_events - p.done) s.now p.at (end_within true (refusal_of 9) (most_events - p.done) l.mtu s.now p.at f))
      by (Err r) f =
          turn_faulty s n p r (next_settings s.now p l e ∙ f)
          ∙ sym (failed_within true (refusal_of 9) (most_events - p.done) l.mtu s.now p.at r f).1
      by (Ok (Some i)) f =
          let t = stood_within true (refusal_of 9) (most_events - p.done) l.mtu s.now p.at i.kind i.number i.count i.next f in
          let left : most_events - p.done ≡ i.count + (most_events - (p.done + i.count)) = omega (arith, t.1) in
          turn_stands s n p i.kind i.number i.count i.next (next_settings s.now p l e ∙ f)
          ∙ ap (told (Ok (Some i))) (rest (after (Ok (Some i)) p) (omega (arith, t.1)) (omega (arith, t.0.some)))
          ∙ sym (rw left (t.0.goes_on 9 (most_events - (p.done + i.count))))

  walk_from : (n : ℕ) → Reaches s l.mtu n
  walk_from zero p few h = absurd (omega arith)
  walk_from (suc n) p few h = one_more n (walk_from n) p few h

-- ---- from the start

-- The walk of a new reader takes at most 1,000,001 turns, and it is what the record says: its events, or the number of its earliest fault.
pub walk_reads : (s : Bor (List ℕ)) (n : ℕ) → most_events ≤ n → under (limits_at s.now) (walk_of (suc n) (new_of s)) ≡ read_record s.now
walk_reads s n h = by (header_of_of s.now) refl ∙ sym (read_header true s.now)
  where
    by : (t : Header) → header_of_of s.now ≡ t → under (limits_at s.now) (walk_of (suc n) (new_of s)) ≡ read_by true s.now t
    by (Ok l) e = ap (under (limits_at s.now)) (walk_from s l e (suc n) start (omega arith) (omega arith)) ∙ rw (← (header_stands s.now l e).settings)
    by (Err r) e = ap (under (limits_at s.now)) (turn_faulty s n start r (next_unreadable s.now start r e))

-- what records say, apart from their settings
same_told : (l m : Limits) (v w : Events) → under l v ≡ under m w → v ≡ w
same_told l m (events es) (events fs) e = cc
same_told l m (events es) (faulty n) e = cc
same_told l m (faulty n) (events fs) e = cc
same_told l m (faulty n) (faulty k) e = cc

-- Records that say the same are walked alike.
pub walk_alike : (s t : Bor (List ℕ)) (n m : ℕ) → most_events ≤ n → most_events ≤ m → read_record s.now ≡ read_record t.now → walk_of (suc n) (new_of s) ≡ walk_of (suc m) (new_of t)
walk_alike s t n m h k e =
    same_told (limits_at s.now) (limits_at t.now) (walk_of (suc n) (new_of s)) (walk_of (suc m) (new_of t)) (walk_reads s n h ∙ e ∙ sym (walk_reads t m k))

-- ---- of what was written

-- an item tells the events that it is unrolled to
told_item : (i : Item) (r : Events) → ahead (length (unrolled_item i)) (event_of (kind_of (event_in i)) (number_of (event_in i))) r ≡ behind (unrolled_item i) r
told_item (one e) r = rw (event_of_lem e)
told_item (run e count) r = rw (event_of_lem e, length-replicate count e) (ahead_behind count e r)

module _ (s : Bor (List ℕ)) (l : Limits) (ok : Holds (limits_ok l)) (e : header_of_of s.now ≡ Ok l) where
  -- behind any bytes: items in range are told, in a turn for each and one for the end
  items_from : (is : List Item) (p : List ℕ) (done n : ℕ) → s.now ≡ p ++ items_bytes is → ItemsOk true l is → done + length (unrolled is) ≤ most_events → length is ≤ n →
      walk_of (suc n) (reader_at s (record { at = length p; done = done })) ≡ events (unrolled is)
  items_from [] p done n same v few h =
      let here : Place = record { at = length p; done = done } in
      turn_end s n here (next_end s.now here l e (rw (same, append-nil) (omega arith)))
  items_from (i ∷ is) p done zero same v few h = absurd (omega arith)
  items_from (i ∷ is) p done (suc n) same v few h =
      let here : Place = record { at = length p; done = done } in
      let k = kind_of (event_in i) in
      let x = number_of (event_in i) in
      let count = length (unrolled_item i) in
      let next = length p + length (item_bytes i) in
      let size = length-append (unrolled_item i) (unrolled is) in
      let there = rw (← same) at (item_there l ok p (items_bytes is) i v.0) in
      let rest = items_from is (p ++ item_bytes i) (done + count) n (same ∙ sym (append_assoc p (item_bytes i) (items_bytes is))) v.1 (omega (arith, size)) (omega arith) in
      turn_stands s (suc n) here k x count next (next_item s.now here l e k x count next there (omega (arith, size)))
      ∙ ap (told (Ok (Some (placed k x count next)))) (rw (length-append p (item_bytes i)) at rest)
      ∙ told_item i (events (unrolled is))
      ∙ behind_events (unrolled_item i) (unrolled is)

-- The walk of a record gives the events that its items stand for, in a turn for each item and one for the end.
pub walk_items : (s : Bor (List ℕ)) (l : Limits) (is : List Item) (n : ℕ) → s.now ≡ written_items l is → Formed true l is → length is ≤ n →
    walk_of (suc n) (new_of s) ≡ events (unrolled is)
walk_items s l is n e w h =
    rw (length_header l) at
    (items_from s l w.settings (ap header_of_of e ∙ header_back l w.settings (items_bytes is)) is (header_bytes l) 0 n e w.items (omega (arith, w.few)) h)

length_ones : (es : List Event) → length (ones es) ≡ length es
length_ones [] = refl
length_ones (e ∷ es) = rw (length_ones es)

-- So the walk of one of the old form gives the events that were written, in a turn for each and one for the end.
pub walk_written : (s : Bor (List ℕ)) (l : Limits) (es : List Event) (n : ℕ) → s.now ≡ written l es → WellFormed l es → length es ≤ n →
    walk_of (suc n) (new_of s) ≡ events es
walk_written s l es n e w h =
    walk_items s l (ones es) n (e ∙ sym (ones_written l es)) (ones_formed true l es w) (rw (length_ones es) h) ∙ ap events (ones_unrolled es)

-- ---- in either form

-- A record and its unrolled form are walked alike: each gives the events that the items stand for.
pub either_form : (s t : Bor (List ℕ)) (l : Limits) (is : List Item) (n m : ℕ) → s.now ≡ written_items l is → t.now ≡ written l (unrolled is) → Formed true l is →
    length is ≤ n → length (unrolled is) ≤ m → (walk_of (suc n) (new_of s) ≡ events (unrolled is)) × (walk_of (suc m) (new_of t) ≡ events (unrolled is))
either_form s t l is n m e f w h k = (walk_items s l is n e w h, walk_written t l (unrolled is) m f (formed_events true l is w) k)

-- what a walk comes to whose first items are in range
walk_behind : (s : Bor (List ℕ)) (l : Limits) (is : List Item) (q : List ℕ) (left n : ℕ) → s.now ≡ written_items l is ++ q → Formed true l is →
    length (unrolled is) + left ≡ most_events → most_events ≤ n → walk_of (suc n) (new_of s) ≡ behind (unrolled is) (read_from 9 l.mtu left 0 q)
walk_behind s l is q left n e w sum h =
    let zs = items_bytes is ++ q in
    let same : s.now ≡ header_bytes l ++ zs = e ∙ append_assoc (header_bytes l) (items_bytes is) q in
    walk_from s l (ap header_of_of same ∙ header_back l w.settings zs) (suc n) start (omega arith) (omega arith)
    ∙ rw (same, drop_at (header_bytes l) zs 14 (length_header l), ← sum) (items_then true 9 l w.settings is left q w.items)

-- Whatever stands behind the items, the walk of the one form is that of the other: the same events, or the number of the same fault.
pub either_form_behind : (s t : Bor (List ℕ)) (l : Limits) (is : List Item) (q : List ℕ) (n m : ℕ) → s.now ≡ written_items l is ++ q → t.now ≡ written l (unrolled is) ++ q →
    Formed true l is → most_events ≤ n → most_events ≤ m → walk_of (suc n) (new_of s) ≡ walk_of (suc m) (new_of t)
either_form_behind s t l is q n m e f w h k =
    let es = unrolled is in
    let left = most_events - length es in
    let same : t.now ≡ written_items l (ones es) ++ q = f ∙ ap (λ (r : List ℕ). r ++ q) (sym (ones_written l es)) in
    let sum : length (unrolled (ones es)) + left ≡ most_events = rw (ones_unrolled es) (omega (arith, w.few)) in
    walk_behind s l is q left n e w (omega (arith, w.few)) h
    ∙ sym (rw (ones_unrolled es) at (walk_behind t l (ones es) q left m same (ones_formed true l es (formed_events true l is w)) sum k))

-- ---- what was walked

-- A walk that comes to the end has read what was so written: items that stand for the events that it gave.
pub walked_items : (s : Bor (List ℕ)) (es : List Event) (n : ℕ) → Bytes s.now → most_events ≤ n → walk_of (suc n) (new_of s) ≡ events es →
    WroteWhole true s.now (limits_at s.now) es
walked_items s es n b h e = read_items_lem true s.now (limits_at s.now) es b (sym (walk_reads s n h) ∙ rw e)

-- an event takes 6 bytes, and a run fewer for each of its own
six_each : (l : Limits) (i : Item) → ItemOk true l i → length (item_bytes i) ≤ 6 * length (unrolled_item i)
six_each l (one e) v = omega (arith, length_event e)
six_each l (run e count) v = omega (arith, length_run e count, length-replicate count e, v.3)

six_all : (l : Limits) (is : List Item) → ItemsOk true l is → length (items_bytes is) ≤ 6 * length (unrolled is)
six_all l [] v = omega arith
six_all l (i ∷ is) v =
    omega (arith, length-append (item_bytes i) (items_bytes is), length-append (unrolled_item i) (unrolled is), six_each l i v.0, six_all l is v.1)

-- so items of 6 bytes for each event are events
no_runs : (l : Limits) (is : List Item) → ItemsOk true l is → length (items_bytes is) ≡ 6 * length (unrolled is) → is ≡ ones (unrolled is)
no_runs l [] v e = refl
no_runs l (one x ∷ is) v e = ap (λ (q : List Item). one x ∷ q) (no_runs l is v.1 (omega (arith, length-append (event_bytes x) (items_bytes is), length_event x)))
no_runs l (run x count ∷ is) v e =
    absurd (omega (arith, length-append (run_bytes x count) (items_bytes is), length-append (replicate count x) (unrolled is), length_run x count, length-replicate count x, six_all l is v.1, v.0.3))

-- Where they took 6 bytes each, it was a record of the old form.
pub walked_written : (s : Bor (List ℕ)) (es : List Event) (n : ℕ) → Bytes s.now → most_events ≤ n → walk_of (suc n) (new_of s) ≡ events es →
    length s.now ≡ 14 + 6 * length es → (s.now ≡ written (limits_at s.now) es) × WellFormed (limits_at s.now) es
walked_written s es n b h e long =
    let l = limits_at s.now in
    let w = walked_items s es n b h e in
    let is = w.items in
    let size : length (items_bytes is) ≡ 6 * length (unrolled is) = omega (arith, ap length w.same, length-append (header_bytes l) (items_bytes is), length_header l, ap length w.gives) in
    let bytes : written_items l is ≡ written l es = ap (written_items l) (no_runs l is w.formed.items size ∙ ap ones (sym w.gives)) ∙ ones_written l es in
    (w.same ∙ bytes, rw (sym w.gives) at (formed_events true l is w.formed))
