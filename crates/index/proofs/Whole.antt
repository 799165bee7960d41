-- A record that is read without a fault: every event's place has no fault, what is read from there on is its events, and no place lies far.
-- Assumes nothing.
use Prim.Native.Nat.{ℕ, zero, suc, ◌+◌, ◌-◌, ◌*◌, ◌≤◌, ◌<◌}
use mathlib.Core.Bool.{true}
use mathlib.Core.List.{List, [], ◌∷◌}
use mathlib.Core.Logic.{◌⊎◌, inl, inr}
use mathlib.Core.Path.{◌≡◌, refl, sym, ap, ◌∙◌}
use native.Mathlib.Omega.{arith}
use native.Mathlib.Nat.{add-zero}
use lib.ListN.{length, take, drop, length-drop}
use lib.Seq.{drop-length}
use Rattle.decide.specs.Refusal.{first_of}
use Rattle.decide.proofs.Cases.{by_cases, le_or}
use Rattle.shaper.specs.declared.Limits.{Limits}
use Rattle.shaper.specs.declared.Event.{Event}
use Rattle.shaper.specs.Limits.{most_events}
use Rattle.wire.specs.Wire.{le, Bytes}
use Rattle.record.specs.Record.{WellFormed}
use Rattle.record.specs.Read.{length_at, item_faults, item_count, Events, faulty, events, onward, read_items, whole, read_in}
use Rattle.record.proofs.Rows.{free_stands}
use Rattle.record.proofs.Steps.{Headed}
use Rattle.record.proofs.Wrote.{read_items_lem, formed_events}
use Rattle.excerpt.specs.declared.Place.{Place}
use Rattle.excerpt.specs.Place.{first_place, bytes_from, next_place, place_after, place_faults}
use Rattle.excerpt.specs.Excerpt.{read_part}
use Rattle.excerpt.specs.Last.{events_left}
use Rattle.excerpt.proofs.Faults.{standing, fault_item}
use Rattle.excerpt.proofs.Parts.{after_none, after_next, after_more, next_amid, next_last, part_none, part_event}
use Rattle.excerpt.proofs.Last.{left_end, left_one}
use Rattle.roll.proofs.Unrolling.{unrolling}
use Rattle.index.specs.Index.{piece_of, place_of}
use Rattle.index.proofs.Places.{walk_one, whole_read, place_read}

-- ---- the header

-- the header of a record that is read stands, and its settings are the record's
pub whole_headed : (xs : List ℕ) (l : Limits) (es : List Event) → read_in true xs ≡ whole l es → Headed xs l
whole_headed xs l es h = (unrolling xs l (record { events = es; reads = h })).header

pub whole_mtu : (xs : List ℕ) (l : Limits) (es : List Event) → read_in true xs ≡ whole l es → l.mtu ≡ le 2 xs 4
whole_mtu xs l es h = ap (λ (k : Limits). k.mtu) (whole_headed xs l es h).settings

-- so what a writer writes: settings and events in range
pub whole_formed : (xs : List ℕ) (l : Limits) (es : List Event) → Bytes xs → read_in true xs ≡ whole l es → WellFormed l es
whole_formed xs l es b h = let w = read_items_lem true xs l es b h in rw (sym w.gives) at (formed_events true l w.items w.formed)

-- ---- along the places

-- An item without a fault stands for some events, and takes at most 6 bytes for each.
record Short (xs : List ℕ) (at : ℕ) : Type 0 where
  some : 1 ≤ item_count (drop at xs)
  short : at + length_at (drop at xs) ≤ at + 6 * item_count (drop at xs)
  fits : at + length_at (drop at xs) ≤ length xs

item_there : (mtu : ℕ) (xs : List ℕ) (at : ℕ) → at < length xs → first_of (item_faults true mtu (drop at xs)) ≡ 0 → Short xs at
item_there mtu xs at h free =
    let s = standing mtu xs at _ _ _ _ (free_stands true mtu xs at h free) in
    let c = s.stood.counts in
    record {
      some = omega (arith, s.stood.some);
      short = by_cases s.stood.there (λ e. omega (arith, s.behind, e.one, e.six)) (λ r. omega (arith, s.behind, r.1.many, r.1.ten));
      fits = omega (arith, s.behind, s.stood.fits);
    }

-- The place of event i: behind the header, no more than 6 bytes on for each event before it, and within its item.
pub record Near (xs : List ℕ) (i : ℕ) (p : Place) : Type 0 where
  pub late : 14 ≤ p.at
  pub near : p.at + 6 * p.gone ≤ 14 + 6 * i
  pub within : p.at ≤ length xs
  pub few : (p.gone ≡ 0) ⊎ (p.gone < item_count (bytes_from xs p))

module _ (mtu : ℕ) (xs : List ℕ) (p : Place) (some : p.at < length xs) (free : first_of (item_faults true mtu (bytes_from xs p)) ≡ 0) (i : ℕ) (k : Near xs i p) where
  names_event : p.gone < item_count (bytes_from xs p)
  names_event = let t = item_there mtu xs p.at some free in by_cases k.few (λ z. omega (arith, t.some)) (λ h. h)

  near_free : first_of (place_faults mtu xs p) ≡ 0
  near_free = fault_item mtu xs p k.late names_event ∙ free

  near_next : Near xs (suc i) (next_place xs p)
  near_next =
      let t = item_there mtu xs p.at some free in
      let g = names_event in
      by_cases (le_or (item_count (bytes_from xs p)) (suc p.gone))
      (λ h. rw (next_last xs p.at _ _ refl refl p.gone h)
      (record { late = omega (arith, k.late); near = omega (arith, k.near, t.short); within = t.fits; few = inl refl }))
      (λ h. rw (next_amid xs p.at _ _ refl refl p.gone h)
      (record { late = k.late; near = omega (arith, k.near); within = k.within; few = inr h }))

-- where no event is read no byte stands
none_left : (late mtu left gone : ℕ) (ys : List ℕ) → read_items true late mtu left gone ys ≡ events [] → length ys ≡ 0
unfolding read_items
none_left late mtu left gone [] h = refl
none_left late mtu zero gone (y ∷ ys) h = let z : ◌≡◌ {A = ℕ} 0 1 = cc in absurd (omega arith)
none_left late mtu (suc left) gone (y ∷ ys) h = by (first_of (item_faults true mtu (y ∷ ys))) _ _ h
  where
    by : (n : ℕ) (e : Event) (r : Events) → onward n e r ≡ events [] → suc (length ys) ≡ 0
    by zero e (events fs) q = let z : ◌≡◌ {A = ℕ} 0 1 = cc in absurd (omega arith)
    by zero e (faulty m) q = let z : ◌≡◌ {A = ℕ} 0 1 = cc in absurd (omega arith)
    by (suc n) e r q = let z : ◌≡◌ {A = ℕ} 0 1 = cc in absurd (omega arith)

-- From a place on these events are read, and no more.
module _ (late mtu : ℕ) (xs : List ℕ) where
  abbrev Reading : ℕ → Place → List Event → Type 0
  Reading left p es = read_items true late mtu left p.gone (bytes_from xs p) ≡ events es

  near_walk : (count left i : ℕ) (p : Place) (es : List Event) → Reading left p es → Near xs i p → count ≤ length es → Near xs (i + count) (place_after count xs p)
  near_walk zero left i p es h k n = rw (after_none xs p) (rw (add-zero i) k)
  near_walk (suc count) left i p [] h k n = absurd (omega arith)
  near_walk (suc count) left i p (e ∷ es) h k n =
      let w = walk_one late mtu left xs p e es h in
      let z : i + suc count ≡ suc i + count = omega arith in
      rw (after_next xs count p, z) (near_walk count (left - 1) (suc i) (next_place xs p) es w.rest (near_next mtu xs p w.some w.free i k) (omega arith))

  part_walk : (count left i : ℕ) (p : Place) (es : List Event) → Reading left p es → Near xs i p → count ≤ length es → read_part mtu count xs p ≡ events (take count es)
  part_walk zero left i p es h k n = part_none mtu xs p
  part_walk (suc count) left i p [] h k n = absurd (omega arith)
  part_walk (suc count) left i p (e ∷ es) h k n =
      let w = walk_one late mtu left xs p e es h in
      part_event mtu xs p count (near_free mtu xs p w.some w.free i k)
      ∙ rw (w.same, part_walk count (left - 1) (suc i) (next_place xs p) es w.rest (near_next mtu xs p w.some w.free i k) (omega arith))

  left_walk : (most left i : ℕ) (p : Place) (es : List Event) → Reading left p es → Near xs i p → length es ≤ most → events_left most mtu xs p ≡ length es
  left_walk most left i p [] h k n = left_end mtu xs most p (omega (arith, none_left late mtu left p.gone (bytes_from xs p) h, length-drop p.at xs))
  left_walk zero left i p (e ∷ es) h k n = absurd (omega arith)
  left_walk (suc most) left i p (e ∷ es) h k n =
      let w = walk_one late mtu left xs p e es h in
      left_one mtu xs most 0 p w.some (near_free mtu xs p w.some w.free i k) (λ z. omega arith)
      ∙ ap suc (left_walk most (left - 1) (suc i) (next_place xs p) es w.rest (near_next mtu xs p w.some w.free i k) (omega arith))

-- ---- the whole record

module _ (xs : List ℕ) (l : Limits) (es : List Event) (h : read_in true xs ≡ whole l es) where
  pub place_kept : (i : ℕ) → i ≤ length es → Near xs i (place_of xs i)
  unfolding place_of
  place_kept i n =
      let w = whole_headed xs l es h in
      let z : 0 + i ≡ i = omega arith in
      rw z at (near_walk 9 l.mtu xs i most_events 0 first_place es (whole_read xs l es h) (record { late = omega arith; near = omega arith; within = w.long; few = inl refl }) n)

  -- no event's place has a fault
  pub place_free : (i : ℕ) → i < length es → first_of (place_faults l.mtu xs (place_of xs i)) ≡ 0
  place_free i n = by (drop i es) (length-drop i es) (place_read xs l es h i (omega arith))
    where
      by : (fs : List Event) → length fs ≡ length es - i → Reading 9 l.mtu xs (most_events - i) (place_of xs i) fs → first_of (place_faults l.mtu xs (place_of xs i)) ≡ 0
      by [] m r = absurd (omega arith)
      by (f ∷ fs) m r =
          let w = walk_one 9 l.mtu (most_events - i) xs (place_of xs i) f fs r in
          near_free l.mtu xs (place_of xs i) w.some w.free i (place_kept i (omega arith))

  -- The events from one on: those that are read there, and the place behind them.
  pub part_whole : (i k : ℕ) → i + k ≤ length es → read_part l.mtu k xs (place_of xs i) ≡ events (piece_of es i (i + k))
  part_whole i k n =
      let z : i + k - i ≡ k = omega arith in
      rw z (part_walk 9 l.mtu xs k (most_events - i) i (place_of xs i) (drop i es) (place_read xs l es h i (omega arith)) (place_kept i (omega arith)) (omega (arith, length-drop i es)))

  -- so many are left
  pub left_whole : (most i : ℕ) → i ≤ length es → length es - i ≤ most → events_left most l.mtu xs (place_of xs i) ≡ length es - i
  left_whole most i n m =
      let d = length-drop i es in
      left_walk 9 l.mtu xs most (most_events - i) i (place_of xs i) (drop i es) (place_read xs l es h i n) (place_kept i n) (omega arith) ∙ d

  -- the same by the header's field
  pub left_field : (most i : ℕ) → i ≤ length es → length es - i ≤ most → events_left most (le 2 xs 4) xs (place_of xs i) ≡ length es - i
  left_field most i n m = rw (← whole_mtu xs l es h) (left_whole most i n m)

  -- ---- how far a place lies

  pub place_near : (i : ℕ) → i ≤ length es → (place_of xs i).at + 6 * (place_of xs i).gone ≤ 14 + 6 * i
  place_near i n = (place_kept i n).near

  pub place_within : (i : ℕ) → i ≤ length es → (place_of xs i).at ≤ length xs
  place_within i n = (place_kept i n).within

  -- behind the last event the record ends
  pub place_end : (place_of xs (length es)).at ≡ length xs
  place_end =
      let p = place_of xs (length es) in
      let r = rw drop-length at (place_read xs l es h (length es) (omega arith)) in
      omega (arith, place_within (length es) (omega arith), none_left 9 l.mtu (most_events - length es) p.gone (bytes_from xs p) r, length-drop p.at xs)

  pub length_whole : length xs ≤ 14 + 6 * length es
  length_whole = omega (arith, place_end, place_near (length es) (omega arith))

  -- as many as may come
  pub few_whole : length es ≤ most_events
  few_whole = by_cases (le_or (length es) most_events) (λ n. n) (λ n. absurd (by n (drop most_events es) (length-drop most_events es) (place_read xs l es h most_events (omega arith))))
    where
      by : most_events < length es → (fs : List Event) → length fs ≡ length es - most_events → Reading 9 l.mtu xs (most_events - most_events) (place_of xs most_events) fs → ⊥
      by n [] m r = omega arith
      by n (f ∷ fs) m r = omega (arith, (walk_one 9 l.mtu (most_events - most_events) xs (place_of xs most_events) f fs r).more)

  pub place_fits : (i : ℕ) → i ≤ length es → ((place_of xs i).at < 4294967296) × ((place_of xs i).gone < 4294967296)
  place_fits i n = let k = place_near i n in let m = few_whole in (omega arith, omega arith)

-- behind k events more
pub place_on : (xs : List ℕ) (i k : ℕ) → place_after k xs (place_of xs i) ≡ place_of xs (i + k)
unfolding place_of
place_on xs i k = sym (after_more xs i k first_place)
