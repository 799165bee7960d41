-- A record of either form is unrolled item by item: what is left to read from a place on is what is left to write.
-- Assumes nothing.
use Prim.Native.Nat.{ℕ, zero, suc, ◌+◌, ◌*◌, ◌-◌, ◌≤◌, ◌<◌}
use mathlib.Core.Bool.{true, cond}
use mathlib.Core.List.{List, [], ◌++◌}
use mathlib.Core.Logic.{⊎_elim}
use mathlib.Core.Path.{◌≡◌, refl, sym, ap, ◌∙◌}
use native.Mathlib.Omega.{arith}
use lib.ListN.{length, drop, replicate, length-append, length-replicate}
use lib.Seq.{drop_at}
use Rattle.std.specs.Prelude.{Some, None, Ok, Err}
use Rattle.decide.specs.declared.refusal.Refusal.{Refusal}
use Rattle.decide.specs.Number.{number_in}
use Rattle.decide.proofs.Cases.{by_cases, le_or}
use Rattle.shaper.specs.declared.Limits.{Limits}
use Rattle.shaper.specs.declared.Event.{Event}
use Rattle.shaper.specs.Limits.{most_events}
use Rattle.shaper.specs.Kind.{kind_of, number_of, event_of}
use Rattle.wire.specs.Wire.{le, put}
use Rattle.wire.proofs.Puts.{put_put, put_nil, length_put}
use Rattle.record.specs.Record.{header_bytes, event_bytes, events_bytes, written}
use Rattle.record.specs.Read.{is_run, item_kind, item_number, item_count, Events, faulty, events, ahead, read_items, unreadable, whole, under}
use Rattle.record.specs.Step.{Header, Step, placed, header_of_of, item_at}
use Rattle.record.proofs.Fields.{event_good}
use Rattle.record.proofs.Rows.{run_at, run_not_at, free_stands}
use Rattle.record.proofs.Steps.{Stood, Headed, read_by, read_header, header_stands, read_end, read_over, step_stands, step_end, step_faulty}
use Rattle.record.proofs.Written.{length_header, length_events, length_written, events_append, ahead_behind, behind_events, behind_faulty}
use Rattle.roll.specs.Moved.{unrolled_bytes}
use Rattle.roll.specs.Steps.{Reads, output_of, repeated_fields, item_bytes}
use Rattle.roll.proofs.Laying.{length_repeated}

-- ---- equal events, one by one

pub repeated_bytes : (count : ℕ) (e : Event) → events_bytes (replicate count e) ≡ repeated_fields count (kind_of e) (number_of e)
unfolding event_bytes repeated_fields
repeated_bytes zero e = refl
repeated_bytes (suc count) e = ap (λ (q : List ℕ). event_bytes e ++ q) (repeated_bytes count e)

-- events that begin with so many equal ones
record Begins (c : ℕ) (e : Event) (r : Events) (es : List Event) : Type 0 where
  rest : List Event
  left : r ≡ events rest
  parts : es ≡ replicate c e ++ rest

begins : (c : ℕ) (e : Event) (r : Events) (es : List Event) → ahead c e r ≡ events es → Begins c e r es
begins c e (faulty n) es h = let z : ◌≡◌ {A = ℕ} 0 1 = clash (sym (ahead_behind c e (faulty n) ∙ behind_faulty (replicate c e) n) ∙ h) in absurd (omega arith)
  where
    clash : faulty n ≡ events es → ◌≡◌ {A = ℕ} 0 1
    clash q = cc
begins c e (events fs) es h = record { rest = fs; left = refl; parts = same (sym (ahead_behind c e (events fs) ∙ behind_events (replicate c e) fs) ∙ h) }
  where
    same : events (replicate c e ++ fs) ≡ events es → es ≡ replicate c e ++ fs
    same q = cc

-- ---- the output

-- what a record of either form is, and what is written of it
pub record Unrolling (xs : List ℕ) (l : Limits) : Type 0 where
  pub events : List Event
  pub header : Headed xs l
  pub behind : read_items true 9 l.mtu most_events 0 (drop 14 xs) ≡ Events.events events
  pub made : output_of (unrolled_bytes xs) ≡ written l events

under_whole : (k : Limits) (r : Events) (l : Limits) (es : List Event) → under k r ≡ whole l es → (k ≡ l) × (r ≡ events es)
under_whole k (faulty n) l es e = let z : ◌≡◌ {A = ℕ} 0 1 = cc in absurd (omega arith)
under_whole k (events fs) l es e = (cc, cc)

pub unrolling : (xs : List ℕ) (l : Limits) → Reads true xs l → Unrolling xs l
unfolding unrolled_bytes
unrolling xs l r = by (header_of_of xs) refl
  where
    by : (h : Header) → header_of_of xs ≡ h → Unrolling xs l
    by (Ok k) e =
        let h = header_stands xs k e in
        let w = under_whole k (read_items true 9 k.mtu most_events 0 (drop 14 xs)) l r.events (sym (h.goes_on true) ∙ r.reads) in
        let made : output_of (unrolled_bytes xs) ≡ written l r.events = rw r.reads in
        record { events = r.events; header = rw w.0 at h; behind = rw w.0 at w.1; made = made }
    by (Err f) e =
        let z : ◌≡◌ {A = ℕ} 0 1 = clash (sym r.reads ∙ read_header true xs ∙ ap (read_by true xs) e) in absurd (omega arith)
      where
        clash : whole l r.events ≡ unreadable (number_in f) → ◌≡◌ {A = ℕ} 0 1
        clash q = cc

-- ---- what is left is put

pub record Laid (xs base room : List ℕ) (l : Limits) (at end : ℕ) : Type 0 where
  pub rest : List Event
  pub may : ℕ
  pub reads : read_items true 9 l.mtu may 0 (drop at xs) ≡ events rest
  pub size : length room ≡ length base
  pub fits : end + 6 * length rest ≤ length base
  pub left : put room end (events_bytes rest) ≡ put base 14 (drop 14 (output_of (unrolled_bytes xs)))

events_made : (xs : List ℕ) (l : Limits) (r : Unrolling xs l) → drop 14 (output_of (unrolled_bytes xs)) ≡ events_bytes r.events
events_made xs l r = ap (drop 14) r.made ∙ drop_at (header_bytes l) (events_bytes r.events) 14 (length_header l)

pub length_made : (xs : List ℕ) (l : Limits) (r : Unrolling xs l) → length (output_of (unrolled_bytes xs)) ≡ 14 + 6 * length r.events
length_made xs l r = ap length r.made ∙ length_written l r.events

-- the same by what was read
pub length_read : (xs : List ℕ) (l : Limits) (r : Reads true xs l) → length (output_of (unrolled_bytes xs)) ≡ 14 + 6 * length r.events
unfolding unrolled_bytes
length_read xs l r = rw r.reads (length_written l r.events)

-- before the first item
pub laid_start : (xs base : List ℕ) (l : Limits) → Unrolling xs l → length (output_of (unrolled_bytes xs)) ≤ length base → Laid xs base base l 14 14
laid_start xs base l r h =
    record {
      rest = r.events;
      may = most_events;
      reads = r.behind;
      size = refl;
      fits = omega (arith, length_made xs l r);
      left = ap (put base 14) (sym (events_made xs l r));
    }

module _ (xs base room : List ℕ) (l : Limits) (at end : ℕ) (t : Laid xs base room l at end) where
  -- an item stands there: as many events are left as it stands for, and behind it the rest
  pub record Taken (k v c next : ℕ) : Type 0 where
    pub fields : (kind_of (event_of k v) ≡ k) × (number_of (event_of k v) ≡ v)
    pub further : at + 6 ≤ next
    pub within : next ≤ length xs
    pub room_for : end + 6 * c ≤ length base
    pub after : (next-room : List ℕ) → next-room ≡ put room end (repeated_fields c k v) → Laid xs base next-room l next (end + 6 * c)

  taken_by : (k v c next : ℕ) → Stood true l.mtu xs at k v c next → c ≤ t.may → Taken k v c next
  taken_by k v c next s few =
      let e = event_of k v in
      let left = t.may - c in
      let sum : t.may ≡ c + left = omega arith in
      let b = begins c e (read_items true 9 l.mtu left 0 (drop next xs)) t.rest (sym (s.goes_on 9 left) ∙ ap (λ (n : ℕ). read_items true 9 l.mtu n 0 (drop at xs)) (sym sum) ∙ t.reads) in
      let f = event_good l.mtu 6 k v s.fields in
      let size : length t.rest ≡ c + length b.rest = ap length b.parts ∙ length-append (replicate c e) b.rest ∙ ap (λ (n : ℕ). n + length b.rest) (length-replicate c e) in
      let same : events_bytes (replicate c e) ≡ repeated_fields c k v = rw (f.0, f.1) at (repeated_bytes c e) in
      let parts : events_bytes t.rest ≡ repeated_fields c k v ++ events_bytes b.rest =
      ap events_bytes b.parts ∙ events_append (replicate c e) b.rest ∙ ap (λ (q : List ℕ). q ++ events_bytes b.rest) same in
      record {
        fields = f;
        further = s.further;
        within = s.fits;
        room_for = omega (arith, t.fits);
        after = λ next-room p. record {
          rest = b.rest;
          may = left;
          reads = b.left;
          size = ap length p ∙ length_put room (repeated_fields c k v) end (omega (arith, t.fits, t.size, length_repeated c k v)) ∙ t.size;
          fits = omega (arith, t.fits);
          left =
              ap (λ (q : List ℕ). put q (end + 6 * c) (events_bytes b.rest)) p
              ∙ put_put room (repeated_fields c k v) (events_bytes b.rest) end (end + 6 * c) (omega (arith, length_repeated c k v)) (omega (arith, t.fits, t.size, length_events b.rest))
              ∙ ap (put room end) (sym parts)
              ∙ t.left;
        };
      }

  clash : (n : ℕ) → faulty n ≡ events t.rest → ◌≡◌ {A = ℕ} 0 1
  clash n q = cc

  laid_next : (k v c next : ℕ) → item_at true l.mtu xs at ≡ Ok (Some (placed k v c next)) → Taken k v c next
  laid_next k v c next e =
      let s = step_stands true l.mtu xs at k v c next e in
      by_cases (le_or c t.may) (λ few. taken_by k v c next s few)
      (λ over. let z = clash 9 (sym (s.passes 9 t.may over) ∙ t.reads) in absurd (omega arith))

  -- nothing stands there
  pub laid_end : length xs ≤ at → room ≡ put base 14 (drop 14 (output_of (unrolled_bytes xs)))
  laid_end h =
      let none : events [] ≡ events t.rest = sym (read_end true 9 l.mtu t.may xs at h) ∙ t.reads in
      let rest : t.rest ≡ [] = cc in
      sym (put_nil room end) ∙ ap (λ (q : List Event). put room end (events_bytes q)) (sym rest) ∙ t.left

  -- no fault does
  laid_fault : (f : Refusal) → item_at true l.mtu xs at ≡ Err f → ⊥
  laid_fault f e = by t.may t.reads
    where
      by : (m : ℕ) → read_items true 9 l.mtu m 0 (drop at xs) ≡ events t.rest → ⊥
      by zero q = let z = clash 9 (sym (read_over true 9 l.mtu xs at (step_faulty true l.mtu xs at f e).some) ∙ q) in omega arith
      by (suc m) q = let z = clash (number_in f) (sym ((step_faulty true l.mtu xs at f e).stops 9 m) ∙ q) in omega arith

  -- so an item does, of as many bytes as its kind has
  next_by_lem : (k v c next : ℕ) → Stood true l.mtu xs at k v c next → at < length xs →
      Taken (item_kind (drop at xs)) (item_number (drop at xs)) (item_count (drop at xs)) (at + item_bytes xs at)
  unfolding item_bytes
  next_by_lem k v c next s h =
      let stands = free_stands true l.mtu xs at h s.free in
      let item = laid_next _ _ _ _ stands in
      let size : le 2 xs at ≡ cond (is_run (drop at xs)) 10 6 = ⊎_elim
      (λ e. rw (run_not_at xs at (λ q. omega (arith, e.kind_field, s.fields.last))) e.length_field)
      (λ r. rw (run_at xs at r.1.run_field) r.1.length_field)
      s.there in
      rw size at item

  pub laid_item : at < length xs → Taken (item_kind (drop at xs)) (item_number (drop at xs)) (item_count (drop at xs)) (at + item_bytes xs at)
  laid_item h = by (item_at true l.mtu xs at) refl
    where
      by : (s : Step) → item_at true l.mtu xs at ≡ s → Taken (item_kind (drop at xs)) (item_number (drop at xs)) (item_count (drop at xs)) (at + item_bytes xs at)
      by (Ok None) e = absurd (omega (arith, step_end true l.mtu xs at e))
      by (Err f) e = absurd (laid_fault f e)
      by (Ok (Some i)) e = next_by_lem i.kind i.number i.count i.next (step_stands true l.mtu xs at i.kind i.number i.count i.next e) h

-- ---- the header before it

pub room_for_header : (xs : List ℕ) (l : Limits) (r : Unrolling xs l) (n : ℕ) → length (output_of (unrolled_bytes xs)) ≤ n → 14 ≤ n
room_for_header xs l r n h = omega (arith, length_made xs l r)

module _ (xs room base : List ℕ) (l : Limits) (r : Unrolling xs l) (h : length (output_of (unrolled_bytes xs)) ≤ length room) where
  pub header_kept : base ≡ put room 0 (header_bytes l) → length base ≡ length room
  header_kept e = let long = room_for_header xs l r (length room) h in ap length e ∙ length_put room (header_bytes l) 0 (omega (arith, length_header l))

  -- the header, and then all events
  pub laid_whole : base ≡ put room 0 (header_bytes l) → put base 14 (drop 14 (output_of (unrolled_bytes xs))) ≡ put room 0 (output_of (unrolled_bytes xs))
  laid_whole e =
      let es = events_bytes r.events in
      ap (put base 14) (events_made xs l r)
      ∙ ap (λ (q : List ℕ). put q 14 es) e
      ∙ put_put room (header_bytes l) es 0 14 (omega (arith, length_header l)) (omega (arith, length_made xs l r, length_events r.events))
      ∙ ap (put room 0) (sym r.made)

-- the settings are those that were read, whichever they are
pub record LaidUnder (xs base room : List ℕ) (at end : ℕ) : Type 0 where
  pub limits : Limits
  pub laid : Laid xs base room limits at end
