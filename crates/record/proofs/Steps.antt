-- The meaning of any bytes, walked: the header first, then item by item. Each step of the definition is what `item_at` finds there: an item of so many events is so many
-- turns (`read_run`).
-- Assumes nothing.
use Rattle.std.specs.Prelude.{Ok, Err, Some, None}
use Prim.Native.Nat.{ℕ, zero, suc, ◌+◌, ◌≤◌, ◌<◌}
use mathlib.Core.Bool.{Bool, true, false, ◌&&◌}
use mathlib.Core.List.{List, [], ◌∷◌}
use mathlib.Core.Logic.{◌⊎◌, inl, inr, ⊎_elim}
use mathlib.Core.Path.{◌≡◌, refl, sym, ap, ◌∙◌}
use native.Mathlib.Omega.{arith}
use native.Mathlib.Nat.{add-zero, zero-add, suc-add}
use borrow.Author.Tests.{le-ltb, lt-ltb}
use lib.ListN.{length, drop, length-drop, drop_of_length-le}
use lib.Seq.{drop-drop}
use Rattle.decide.specs.Refusal.{first_of}
use Rattle.decide.specs.Test.{Holds, ◌≡?◌, test, facts, split, both}
use Rattle.decide.proofs.Cases.{by_cases, le_or, true_or_false}
use Rattle.shaper.specs.declared.Limits.{Limits}
use Rattle.shaper.specs.Limits.{limits_ok, most_amount, most_events}
use Rattle.shaper.specs.Credit.{Valid}
use Rattle.shaper.specs.Kind.{event_of}
use Rattle.wire.specs.Wire.{le, Bytes}
use Rattle.wire.proofs.Numbers.{le_bound, le_drop}
use Rattle.record.specs.Items.{most_of_run}
use Rattle.record.specs.Read.{limits_at, header_faults, length_at, is_run, item_faults, item_kind, item_number, item_count, faulty, events, onward, ahead, gone_behind, bytes_behind, read_items, Read, unreadable, under, opened_in, read_in}
use Rattle.record.specs.Step.{headed, header_of_of, item_at, item_within, Header, Step, placed}
use Rattle.record.proofs.Fields.{Good, GoodRun, free_facts, facts_free, run_facts, valid_good}
use Rattle.record.proofs.Rows.{Told, fault_at, run_fault_at, kind_there, no_run, no_run_in, told_event, told_run, header_short, header_length, header_kind, header_outside, header_settings, item_end, item_faulty, event_fields_at, event_cut, event_stands, run_fields_at, run_cut, run_stands, within_stands, within_over, within_end, within_faulty, within_none}
use Rattle.decide.specs.declared.refusal.Refusal.{Refusal}
use Rattle.decide.specs.Number.{number_in}
use Rattle.decide.proofs.Number.{number_told}

-- ---- the header

-- what the whole says, by what its header says
abbrev pub read_by : Bool → List ℕ → Header → Read
read_by runs xs (Ok l) = under l (read_items runs 9 l.mtu most_events 0 (drop 14 xs))
read_by runs xs (Err r) = unreadable (number_in r)

pub read_header : (runs : Bool) (xs : List ℕ) → read_in runs xs ≡ read_by runs xs (header_of_of xs)
unfolding read_in header_of_of
read_header runs xs = by (first_of (header_faults xs))
  where
    by : (n : ℕ) → opened_in runs n xs ≡ read_by runs xs (headed n xs)
    by zero = refl
    by (suc n) = ap unreadable (sym (number_told (suc n)))

-- a header that stands: the settings are those at its places, and in range
pub record Headed (xs : List ℕ) (l : Limits) : Type 0 where
  pub long : 14 ≤ length xs
  pub length_field : le 2 xs 0 ≡ 14
  pub kind_field : le 2 xs 2 ≡ 16
  pub settings : l ≡ limits_at xs
  pub in_range_lem : Holds (limits_ok l)
  pub goes_on : (runs : Bool) → read_in runs xs ≡ under l (read_items runs 9 l.mtu most_events 0 (drop 14 xs))

abbrev MeansHeader : List ℕ → Header → Type 0
MeansHeader xs (Ok l) = Headed xs l
MeansHeader xs (Err r) = 0 < number_in r

means_header : (xs : List ℕ) → MeansHeader xs (header_of_of xs)
means_header xs =
    by_cases (le_or 14 (length xs))
    (λ h. by_cases (split (le 2 xs 0 ≡? 14))
    (λ e. by_cases (split (le 2 xs 2 ≡? 16))
    (λ k. by_cases (true_or_false (test (limits_ok (limits_at xs))))
    (λ o. rw (header_settings xs h e k o)
    (record {
      long = h;
      length_field = e;
      kind_field = k;
      settings = refl;
      in_range_lem = facts (limits_ok (limits_at xs)) o;
      goes_on = λ runs. read_header runs xs ∙ rw (header_settings xs h e k o);
    }))
    (λ o. rw (header_outside xs h e k o) (omega arith)))
    (λ k. rw (header_kind xs h e k) (omega arith)))
    (λ e. rw (header_length xs h e) (omega arith)))
    (λ h. rw (header_short xs h) (omega arith))

pub header_stands : (xs : List ℕ) (l : Limits) → header_of_of xs ≡ Ok l → Headed xs l
header_stands xs l e = rw e at (means_header xs)

-- a header's fault, which is never 0, is the record's
pub header_faulty : (runs : Bool) (xs : List ℕ) (r : Refusal) → header_of_of xs ≡ Err r → (0 < number_in r) × (read_in runs xs ≡ unreadable (number_in r))
header_faulty runs xs r e = (rw e at (means_header xs), read_header runs xs ∙ rw e)

-- ---- the items

module _ (runs : Bool) (late mtu : ℕ) where
  read_some : (m gone : ℕ) (ys : List ℕ) → 0 < length ys →
      read_items runs late mtu (suc m) gone ys
      ≡ onward (first_of (item_faults runs mtu ys)) (event_of (item_kind ys) (item_number ys)) (read_items runs late mtu m (gone_behind gone ys) (bytes_behind gone ys))
  unfolding read_items
  read_some m gone [] h = absurd (omega arith)
  read_some m gone (y ∷ ys) h = refl

  read_none : (left : ℕ) → read_items runs late mtu left 0 [] ≡ events []
  unfolding read_items
  read_none zero = refl
  read_none (suc m) = refl

  read_more : (gone : ℕ) (ys : List ℕ) → 0 < length ys → read_items runs late mtu 0 gone ys ≡ faulty late
  unfolding read_items
  read_more gone [] h = absurd (omega arith)
  read_more gone (y ∷ ys) h = refl

  -- at the end
  pub read_end : (left : ℕ) (xs : List ℕ) (at : ℕ) → length xs ≤ at → read_items runs late mtu left 0 (drop at xs) ≡ events []
  read_end left xs at h = rw (drop_of_length-le xs h) (read_none left)

  -- Any byte after the last event that may come is too late.
  pub read_over : (xs : List ℕ) (at : ℕ) → at < length xs → read_items runs late mtu 0 0 (drop at xs) ≡ faulty late
  read_over xs at h = read_more 0 (drop at xs) (simp length-drop (omega arith))

  -- a fault at the front
  read_fault : (m n : ℕ) (ys : List ℕ) → 0 < length ys → first_of (item_faults runs mtu ys) ≡ n → 0 < n → read_items runs late mtu (suc m) 0 ys ≡ faulty n
  read_fault m zero ys h e p = absurd (omega arith)
  read_fault m (suc n) ys h e p = read_some m 0 ys h ∙ rw e

-- an item without a fault at the front, of c events of kind k and number v
module _ (runs : Bool) (late mtu : ℕ) (ys : List ℕ) (k v c : ℕ) (some : 0 < length ys) (free : first_of (item_faults runs mtu ys) ≡ 0) (t : Told ys k v c) where
  -- an event of it that is not its last
  read_amid : (m gone : ℕ) → suc gone < c → read_items runs late mtu (suc m) gone ys ≡ onward 0 (event_of k v) (read_items runs late mtu m (suc gone) ys)
  read_amid m gone h = read_some runs late mtu m gone ys some ∙ rw (free, t.kind, t.number, t.count, lt-ltb (suc gone) c h)

  -- its last
  read_last : (m gone : ℕ) → c ≤ suc gone →
      read_items runs late mtu (suc m) gone ys ≡ onward 0 (event_of k v) (read_items runs late mtu m 0 (drop (length_at ys) ys))
  read_last m gone h = read_some runs late mtu m gone ys some ∙ rw (free, t.kind, t.number, t.count, le-ltb (suc gone) c h)

  -- A run of c is c equal ticks in one step: all of its events that are left, and then what stands behind it.
  pub read_run : (j m gone : ℕ) → gone + suc j ≡ c →
      read_items runs late mtu (suc j + m) gone ys ≡ ahead (suc j) (event_of k v) (read_items runs late mtu m 0 (drop (length_at ys) ys))
  read_run zero m gone e = rw (suc-add, zero-add) (read_last m gone (omega arith))
  read_run (suc j) m gone e =
      rw (suc-add (suc j) m) (read_amid (suc j + m) gone (omega arith) ∙ ap (λ r. onward 0 (event_of k v) r) (read_run j m (suc gone) (omega arith)))

  -- More of them than may come are too late.
  pub read_past : (m gone : ℕ) → gone + m < c → read_items runs late mtu m gone ys ≡ faulty late
  read_past zero gone h = read_more runs late mtu gone ys some
  read_past (suc m) gone h = read_amid m gone (omega arith) ∙ rw (read_past m (suc gone) (omega arith))

-- the same of as many as it stands for
read_all : (runs : Bool) (late mtu : ℕ) (ys : List ℕ) (k v c : ℕ) → 0 < length ys → first_of (item_faults runs mtu ys) ≡ 0 → Told ys k v c → 1 ≤ c → (m : ℕ) →
    read_items runs late mtu (c + m) 0 ys ≡ ahead c (event_of k v) (read_items runs late mtu m 0 (drop (length_at ys) ys))
read_all runs late mtu ys k v zero some free t h m = absurd (omega arith)
read_all runs late mtu ys k v (suc j) some free t h m = read_run runs late mtu ys k v (suc j) some free t j m 0 (zero-add (suc j))

-- ---- what stands at a place

-- the fields at a place are good
abbrev pub GoodAt : ℕ → List ℕ → ℕ → Type 0
GoodAt mtu xs at = Good mtu (le 2 xs at) (le 2 xs (at + 2)) (le 2 xs (at + 4))

-- an event: its kind and number are those fields, it stands for one, and the next begins 6 bytes on
pub record EventThere (xs : List ℕ) (at k v c next : ℕ) : Type 0 where
  pub length_field : le 2 xs at ≡ 6
  pub kind_field : k ≡ le 2 xs (at + 2)
  pub number_field : v ≡ le 2 xs (at + 4)
  pub one : c ≡ 1
  pub six : next ≡ at + 6

-- a run: its tick kind, amount and count are those fields, and the next begins 10 bytes on
pub record RunThere (xs : List ℕ) (at k v c next : ℕ) : Type 0 where
  pub length_field : le 2 xs at ≡ 10
  pub run_field : le 2 xs (at + 2) ≡ 4
  pub kind_field : k ≡ le 2 xs (at + 4)
  pub number_field : v ≡ le 2 xs (at + 6)
  pub count_field : c ≡ le 2 xs (at + 8)
  pub tick : k < 3
  pub many : 2 ≤ c
  pub ten : next ≡ at + 10

-- an item that stands at a place, for c events of kind k and number v
pub record Stood (runs : Bool) (mtu : ℕ) (xs : List ℕ) (at k v c next : ℕ) : Type 0 where
  pub there : EventThere xs at k v c next ⊎ ((runs ≡ true) × RunThere xs at k v c next)
  pub free : first_of (item_faults runs mtu (drop at xs)) ≡ 0
  pub counts : item_count (drop at xs) ≡ c
  pub fits : next ≤ length xs
  pub some : 1 ≤ c
  pub further : at + 6 ≤ next
  -- what stands more than once is a tick
  pub alone : (c ≡ 1) ⊎ (k < 3)
  pub fields : Good mtu 6 k v
  pub valid : (l : Limits) → l.mtu ≡ mtu → v ≤ most_amount → Valid l (event_of k v)
  -- its events, and what stands behind it,
  pub goes_on : (late m : ℕ) → read_items runs late mtu (c + m) 0 (drop at xs) ≡ ahead c (event_of k v) (read_items runs late mtu m 0 (drop next xs))
  -- where as many may come; else it is too late
  pub passes : (late m : ℕ) → m < c → read_items runs late mtu m 0 (drop at xs) ≡ faulty late

-- a fault at a place: some byte stands there, and the number is the record's
pub record Failed (runs : Bool) (mtu : ℕ) (xs : List ℕ) (at n : ℕ) : Type 0 where
  pub some : at < length xs
  pub given : 0 < n
  pub stops : (late m : ℕ) → read_items runs late mtu (suc m) 0 (drop at xs) ≡ faulty n

abbrev MeansStep : Bool → ℕ → List ℕ → ℕ → Step → Type 0
MeansStep runs mtu xs at (Ok (Some p)) = Stood runs mtu xs at p.kind p.number p.count p.next
MeansStep runs mtu xs at (Ok None) = length xs ≤ at
MeansStep runs mtu xs at (Err r) = Failed runs mtu xs at (number_in r)

module _ (runs : Bool) (mtu : ℕ) (xs : List ℕ) (at : ℕ) where
  -- an item that stands there is read whole
  stood : (k v c next : ℕ) → at < length xs → first_of (item_faults runs mtu (drop at xs)) ≡ 0 → Told (drop at xs) k v c →
      (EventThere xs at k v c next ⊎ ((runs ≡ true) × RunThere xs at k v c next)) → next ≡ at + le 2 xs at → next ≤ length xs → at + 6 ≤ next → 1 ≤ c → (c ≡ 1) ⊎ (k < 3) →
      Good mtu 6 k v → Stood runs mtu xs at k v c next
  stood k v c next h free t there n fits further some alone g =
      let s : 0 < length (drop at xs) = simp length-drop (omega arith) in
      let e : drop (length_at (drop at xs)) (drop at xs) ≡ drop next xs = simp (drop-drop, le_drop, add-zero) (rw n) in
      record {
        there = there;
        free = free;
        counts = t.count;
        fits = fits;
        some = some;
        further = further;
        alone = alone;
        fields = g;
        valid = valid_good mtu 6 k v g;
        goes_on = λ late m. read_all runs late mtu (drop at xs) k v c s free t some m ∙ rw e;
        passes = λ late m p. read_past runs late mtu (drop at xs) k v c s free t m 0 (omega arith);
      }

  failed : (n : ℕ) → at < length xs → 0 < n → first_of (item_faults runs mtu (drop at xs)) ≡ n → MeansStep runs mtu xs at (item_at runs mtu xs at)
  failed n h p e =
      rw (item_faulty runs mtu xs at n h e (λ z. omega arith))
      (rw (number_told n)
      (record { some = h; given = p; stops = λ late m. read_fault runs late mtu m n (drop at xs) (simp length-drop (omega arith)) e p }))

  event_stood : at + 6 ≤ length xs → GoodAt mtu xs at → MeansStep runs mtu xs at (item_at runs mtu xs at)
  event_stood h g =
      let f = facts_free mtu (le 2 xs at) (le 2 xs (at + 2)) (le 2 xs (at + 4)) g in
      let t : Told (drop at xs) (le 2 xs (at + 2)) (le 2 xs (at + 4)) 1 = simp le_drop at (told_event (drop at xs) (no_run mtu xs at f)) in
      rw (event_stands runs mtu xs at h f)
      (stood _ _ 1 _ (omega arith) (event_fields_at runs mtu xs at (no_run_in runs mtu xs at f) h ∙ f) t
      (inl (record { length_field = g.six; kind_field = refl; number_field = refl; one = refl; six = omega (arith, g.six) }))
      refl (omega (arith, g.six)) (omega (arith, g.six)) (omega arith) (inl refl)
      (record { six = refl; first = g.first; last = g.last; size = g.size }))

  run_stood : (runs && is_run (drop at xs)) ≡ true → at + 10 ≤ length xs → GoodRun (le 2 xs at) (le 2 xs (at + 4)) (le 2 xs (at + 8)) → run_fault_at xs at ≡ 0 →
      MeansStep runs mtu xs at (item_at runs mtu xs at)
  run_stood r h g f =
      let b = both runs (is_run (drop at xs)) r in
      let t : Told (drop at xs) (le 2 xs (at + 4)) (le 2 xs (at + 6)) (le 2 xs (at + 8)) = simp le_drop at (told_run (drop at xs) b.1) in
      rw (run_stands runs mtu xs at r b.1 h f)
      (stood _ _ _ _ (omega arith) (run_fields_at runs mtu xs at r h ∙ f) t
      (inr (b.0, record { length_field = g.ten; run_field = simp le_drop at (kind_there (drop at xs) b.1); kind_field = refl; number_field = refl; count_field = refl; tick = omega (arith, g.last); many = g.many; ten = omega (arith, g.ten) }))
      refl (omega (arith, g.ten)) (omega (arith, g.ten)) (omega (arith, g.many)) (inr (omega (arith, g.last)))
      (record { six = refl; first = g.first; last = omega (arith, g.last); size = inl (omega (arith, g.last)) }))

  means_step : MeansStep runs mtu xs at (item_at runs mtu xs at)
  means_step =
      by_cases (le_or (length xs) at) (λ h. rw (item_end runs mtu xs at h) h)
      (λ h. by_cases (true_or_false (runs && is_run (drop at xs)))
      (λ r. by_cases (le_or (at + 10) (length xs)) (λ k. by_run r k (run_fault_at xs at) refl) (λ k. failed 2 h (omega arith) (run_cut runs mtu xs at r k)))
      (λ r. by_cases (le_or (at + 6) (length xs)) (λ k. by_event r k (fault_at mtu xs at) refl) (λ k. failed 2 h (omega arith) (event_cut runs mtu xs at r k))))
    where
      by_run : (runs && is_run (drop at xs)) ≡ true → at + 10 ≤ length xs → (n : ℕ) → run_fault_at xs at ≡ n → MeansStep runs mtu xs at (item_at runs mtu xs at)
      by_run r k zero e = run_stood r k (run_facts (le 2 xs at) (le 2 xs (at + 4)) (le 2 xs (at + 8)) e) e
      by_run r k (suc n) e = failed (suc n) (omega arith) (omega arith) (run_fields_at runs mtu xs at r k ∙ e)

      by_event : (runs && is_run (drop at xs)) ≡ false → at + 6 ≤ length xs → (n : ℕ) → fault_at mtu xs at ≡ n → MeansStep runs mtu xs at (item_at runs mtu xs at)
      by_event r k zero e = event_stood k (free_facts mtu (le 2 xs at) (le 2 xs (at + 2)) (le 2 xs (at + 4)) e)
      by_event r k (suc n) e = failed (suc n) (omega arith) (omega arith) (event_fields_at runs mtu xs at r k ∙ e)

  pub step_stands : (k v c next : ℕ) → item_at runs mtu xs at ≡ Ok (Some (placed k v c next)) → Stood runs mtu xs at k v c next
  step_stands k v c next e = rw e at means_step

  pub step_end : item_at runs mtu xs at ≡ Ok None → length xs ≤ at
  step_end e = rw e at means_step

  pub step_faulty : (r : Refusal) → item_at runs mtu xs at ≡ Err r → Failed runs mtu xs at (number_in r)
  step_faulty r e = rw e at means_step

  -- good fields at a place are those of an event, in either form
  pub good_stands : at + 6 ≤ length xs → GoodAt mtu xs at → Stood runs mtu xs at (le 2 xs (at + 2)) (le 2 xs (at + 4)) 1 (at + 6)
  good_stands h g =
      let e = event_stands runs mtu xs at h (facts_free mtu (le 2 xs at) (le 2 xs (at + 2)) (le 2 xs (at + 4)) g) in
      rw g.six at (step_stands _ _ _ _ e)

  -- the event, and what stands behind it
  pub read_good : (late m : ℕ) → at + 6 ≤ length xs → GoodAt mtu xs at →
      read_items runs late mtu (suc m) 0 (drop at xs) ≡ onward 0 (event_of (le 2 xs (at + 2)) (le 2 xs (at + 4))) (read_items runs late mtu m 0 (drop (at + 6) xs))
  read_good late m h g = rw (suc-add 0 m, zero-add m) at ((good_stands h g).goes_on late m)

-- ---- what a step tells where `left` more events may come

abbrev MeansWithin : Bool → Refusal → ℕ → ℕ → List ℕ → ℕ → Step → Type 0
MeansWithin runs late left mtu xs at (Ok (Some p)) = Stood runs mtu xs at p.kind p.number p.count p.next × (p.count ≤ left)
MeansWithin runs late left mtu xs at (Ok None) = length xs ≤ at
MeansWithin runs late left mtu xs at (Err r) = (at < length xs) × (read_items runs (number_in late) mtu left 0 (drop at xs) ≡ faulty (number_in r))

means_within : (runs : Bool) (late : Refusal) (mtu : ℕ) (xs : List ℕ) (at left : ℕ) → MeansWithin runs late left mtu xs at (item_within runs late left mtu xs at)
means_within runs late mtu xs at left = by left (item_at runs mtu xs at) refl
  where
    by : (left : ℕ) (s : Step) → item_at runs mtu xs at ≡ s → MeansWithin runs late left mtu xs at (item_within runs late left mtu xs at)
    by left (Ok None) e = rw (within_end runs late left mtu xs at e) (step_end runs mtu xs at e)
    by left (Ok (Some p)) e =
        let t = step_stands runs mtu xs at p.kind p.number p.count p.next e in
        by_cases (le_or p.count left)
        (λ h. rw (within_stands runs late left mtu xs at p.kind p.number p.count p.next e h) (t, h))
        (λ h. rw (within_over runs late left mtu xs at p.kind p.number p.count p.next e h) (omega (arith, t.further, t.fits), t.passes (number_in late) left h))
    by zero (Err r) e =
        let t = step_faulty runs mtu xs at r e in
        rw (within_none runs late 0 mtu xs at r e refl) (t.some, read_over runs (number_in late) mtu xs at t.some)
    by (suc m) (Err r) e =
        let t = step_faulty runs mtu xs at r e in
        rw (within_faulty runs late (suc m) mtu xs at r e (omega arith)) (t.some, t.stops (number_in late) m)

module _ (runs : Bool) (late : Refusal) (left mtu : ℕ) (xs : List ℕ) (at : ℕ) where
  pub stood_within : (k v c next : ℕ) → item_within runs late left mtu xs at ≡ Ok (Some (placed k v c next)) → Stood runs mtu xs at k v c next × (c ≤ left)
  stood_within k v c next e = rw e at (means_within runs late mtu xs at left)

  pub end_within : item_within runs late left mtu xs at ≡ Ok None → length xs ≤ at
  end_within e = rw e at (means_within runs late mtu xs at left)

  pub failed_within : (r : Refusal) → item_within runs late left mtu xs at ≡ Err r → (at < length xs) × (read_items runs (number_in late) mtu left 0 (drop at xs) ≡ faulty (number_in r))
  failed_within r e = rw e at (means_within runs late mtu xs at left)

-- ---- numbers of an item in bytes are below 65,536

module _ (runs : Bool) (mtu : ℕ) (xs : List ℕ) (at k v c next : ℕ) (b : Bytes xs) (s : Stood runs mtu xs at k v c next) where
  pub stood_bound : v ≤ most_amount
  stood_bound =
      ⊎_elim (λ e. omega (arith, e.number_field, le_bound 2 xs (at + 4) b)) (λ r. omega (arith, r.1.number_field, le_bound 2 xs (at + 6) b)) s.there

  pub count_bound : c ≤ most_of_run
  count_bound = ⊎_elim (λ e. omega (arith, e.one)) (λ r. omega (arith, r.1.count_field, le_bound 2 xs (at + 8) b)) s.there
