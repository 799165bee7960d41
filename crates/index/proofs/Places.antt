-- Places along a record that is read without a fault: each event's item stands whole at its place, and what stands from there on is the rest of the events.
-- Assumes nothing.
use Prim.Native.Nat.{ℕ, zero, suc, ◌+◌, ◌-◌, ◌≤◌, ◌<◌}
use mathlib.Core.Bool.{Bool, true, false, cond}
use mathlib.Core.List.{List, [], ◌∷◌}
use mathlib.Core.Path.{◌≡◌, refl, sym, ap, ◌∙◌}
use native.Mathlib.Omega.{arith}
use lib.Dec.{ltb}
use lib.ListN.{length, drop, length-drop}
use lib.Seq.{drop-drop}
use Rattle.decide.specs.Refusal.{first_of}
use Rattle.shaper.specs.declared.Limits.{Limits}
use Rattle.shaper.specs.declared.Event.{Event}
use Rattle.shaper.specs.Limits.{most_events}
use Rattle.shaper.specs.Kind.{event_of}
use Rattle.wire.specs.Wire.{le}
use Rattle.record.specs.Read.{limits_at, header_faults, length_at, item_faults, item_kind, item_number, item_count, Events, faulty, events, onward, gone_behind, bytes_behind, read_items, whole, under, opened_in, read_in}
use Rattle.excerpt.specs.declared.Place.{Place}
use Rattle.excerpt.specs.Place.{first_place, bytes_from, event_from, next_place, place_after}
use Rattle.index.specs.Index.{place_of}

-- an event that is read, and what is read behind it
record Onward (n : ℕ) (e f : Event) (r : Events) (es : List Event) : Type 0 where
  free : n ≡ 0
  same : f ≡ e
  rest : r ≡ events es

onward_back : (n : ℕ) (f : Event) (r : Events) (e : Event) (es : List Event) → onward n f r ≡ events (e ∷ es) → Onward n e f r es
onward_back zero f (events ds) e es h = record { free = refl; same = cc; rest = cc }
onward_back zero f (faulty n) e es h = let z : ◌≡◌ {A = ℕ} 0 1 = cc in absurd (omega arith)
onward_back (suc n) f r e es h = let z : ◌≡◌ {A = ℕ} 0 1 = cc in absurd (omega arith)

-- what stands at the place of an event that is read: some byte, an item without a fault, whose event it is, and behind it the rest of the events
pub record Walked (late mtu left : ℕ) (xs : List ℕ) (p : Place) (e : Event) (es : List Event) : Type 0 where
  pub more : 0 < left
  pub some : p.at < length xs
  pub free : first_of (item_faults true mtu (bytes_from xs p)) ≡ 0
  pub same : event_from xs p ≡ e
  pub rest : read_items true late mtu (left - 1) (next_place xs p).gone (bytes_from xs (next_place xs p)) ≡ events es

-- the bytes behind an event are those from the next place on
next_bytes : (xs : List ℕ) (p : Place) → bytes_from xs (next_place xs p) ≡ bytes_behind p.gone (bytes_from xs p)
next_bytes xs p = by (ltb (suc p.gone) (item_count (bytes_from xs p)))
  where
    by : (b : Bool) → drop (cond b p.at (p.at + length_at (bytes_from xs p))) xs ≡ cond b (bytes_from xs p) (drop (length_at (bytes_from xs p)) (bytes_from xs p))
    by true = refl
    by false = sym (drop-drop (length_at (bytes_from xs p)) p.at xs)

-- where an event is read some byte stands and one may come
front_read : (late mtu left gone : ℕ) (ys : List ℕ) (e : Event) (es : List Event) → read_items true late mtu left gone ys ≡ events (e ∷ es) →
    (0 < left) × (0 < length ys)
    × Onward (first_of (item_faults true mtu ys)) e (event_of (item_kind ys) (item_number ys)) (read_items true late mtu (left - 1) (gone_behind gone ys) (bytes_behind gone ys)) es
unfolding read_items
front_read late mtu zero gone [] e es h = let z : ◌≡◌ {A = ℕ} 0 1 = cc in absurd (omega arith)
front_read late mtu zero gone (y ∷ ys) e es h = let z : ◌≡◌ {A = ℕ} 0 1 = cc in absurd (omega arith)
front_read late mtu (suc left) gone [] e es h = let z : ◌≡◌ {A = ℕ} 0 1 = cc in absurd (omega arith)
front_read late mtu (suc left) gone (y ∷ ys) e es h =
    let one : suc left - 1 ≡ left = omega arith in
    (omega arith, omega arith, onward_back _ _ _ e es (rw one h))

-- one event along
pub walk_one : (late mtu left : ℕ) (xs : List ℕ) (p : Place) (e : Event) (es : List Event) →
    read_items true late mtu left p.gone (bytes_from xs p) ≡ events (e ∷ es) → Walked late mtu left xs p e es
walk_one late mtu left xs p e es h =
    let f = front_read late mtu left p.gone (bytes_from xs p) e es h in
    record {
      more = f.0;
      some = omega (arith, f.1, length-drop p.at xs);
      free = f.2.free;
      same = f.2.same;
      rest = rw (next_bytes xs p) f.2.rest;
    }

module _ (late mtu : ℕ) (xs : List ℕ) where
  -- so many events along: what stands there is the rest of them
  pub place_walk : (count left : ℕ) (p : Place) (es : List Event) → read_items true late mtu left p.gone (bytes_from xs p) ≡ events es → count ≤ length es →
      read_items true late mtu (left - count) (place_after count xs p).gone (bytes_from xs (place_after count xs p)) ≡ events (drop count es)
  unfolding place_after
  place_walk zero left p es h n = let z : left - 0 ≡ left = omega arith in rw z h
  place_walk (suc count) left p [] h n = absurd (omega arith)
  place_walk (suc count) left p (e ∷ es) h n =
      let z : left - suc count ≡ (left - 1) - count = omega arith in
      rw z (place_walk count (left - 1) (next_place xs p) es (walk_one late mtu left xs p e es h).rest (omega arith))

-- ---- the whole record

-- a record that is read whole: its items are read from the first place on, under its settings
pub whole_read : (xs : List ℕ) (l : Limits) (es : List Event) → read_in true xs ≡ whole l es → read_items true 9 l.mtu most_events 0 (drop 14 xs) ≡ events es
unfolding read_in
whole_read xs l es h = by (first_of (header_faults xs)) h
  where
    told : (k : Limits) (r : Events) → under k r ≡ whole l es → (k ≡ l) × (r ≡ events es)
    told k (events fs) e = (cc, cc)
    told k (faulty n) e = let z : ◌≡◌ {A = ℕ} 0 1 = cc in absurd (omega arith)

    by : (n : ℕ) → opened_in true n xs ≡ whole l es → read_items true 9 l.mtu most_events 0 (drop 14 xs) ≡ events es
    by zero e =
        let t = told (limits_at xs) (read_items true 9 (le 2 xs 4) most_events 0 (drop 14 xs)) e in
        ap (λ (k : Limits). read_items true 9 k.mtu most_events 0 (drop 14 xs)) (sym t.0) ∙ t.1
    by (suc n) e = let z : ◌≡◌ {A = ℕ} 0 1 = cc in absurd (omega arith)

-- from the place of an event on, that event and those behind it are read
pub place_read : (xs : List ℕ) (l : Limits) (es : List Event) → read_in true xs ≡ whole l es → (i : ℕ) → i ≤ length es →
    read_items true 9 l.mtu (most_events - i) (place_of xs i).gone (bytes_from xs (place_of xs i)) ≡ events (drop i es)
unfolding place_of
place_read xs l es h i n = place_walk 9 l.mtu xs i most_events first_place es (whole_read xs l es h) n
