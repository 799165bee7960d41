-- What a writer writes is read back whole, in either form.
-- Assumes nothing.
use Rattle.std.specs.Prelude.{Ok}
use Prim.Native.Nat.{ℕ, zero, suc, ◌+◌, ◌*◌, ◌-◌, ◌≤◌, ◌<◌}
use mathlib.Core.Bool.{Bool}
use mathlib.Core.List.{List, [], ◌∷◌, ◌++◌, append_assoc, append-nil}
use mathlib.Core.Path.{◌≡◌, refl, sym, ap, ◌∙◌}
use native.Mathlib.Omega.{arith}
use native.Mathlib.Nat.{zero-add, suc-add, add_assoc}
use lib.ListN.{length, replicate, length-append, length-replicate}
use lib.Seq.{drop_at}
use Rattle.decide.specs.Test.{Holds, test, passes}
use Rattle.shaper.specs.declared.Limits.{Limits}
use Rattle.shaper.specs.declared.Event.{Event}
use Rattle.shaper.specs.declared.Event.TheVariants.{Waiting, Idle, Send}
use Rattle.shaper.specs.Limits.{limits_ok, most_events}
use Rattle.shaper.specs.Credit.{Valid, AllValid}
use Rattle.shaper.specs.Kind.{kind_of, number_of}
use Rattle.shaper.proofs.Kind.{event_of_lem}
use Rattle.wire.specs.Wire.{le}
use Rattle.wire.specs.Parts.{laid_out, length_laid_out}
use Rattle.wire.proofs.Places.{stands_between}
use Rattle.wire.proofs.Laid.{le_part}
use Rattle.record.specs.Record.{header_parts, event_parts, header_bytes, event_bytes, events_bytes, written, WellFormed}
use Rattle.record.specs.Items.{Item, one, run, run_parts, run_bytes, item_bytes, items_bytes, written_items, unrolled_item, unrolled, ItemOk, ItemsOk, Formed}
use Rattle.record.specs.Read.{limits_at, Events, faulty, events, onward, ahead, read_items, whole, read_in}
use Rattle.record.specs.Step.{header_of_of}
use Rattle.record.proofs.Fields.{good_event, run_good}
use Rattle.record.proofs.Rows.{header_settings, run_at, run_stands}
use Rattle.record.proofs.Steps.{read_header, read_good, read_end, step_stands}

-- ---- lengths

pub length_header : (l : Limits) → length (header_bytes l) ≡ 14
unfolding header_bytes
length_header l = length_laid_out (header_parts l)

pub length_event : (e : Event) → length (event_bytes e) ≡ 6
unfolding event_bytes
length_event e = length_laid_out (event_parts e)

pub length_run : (e : Event) (count : ℕ) → length (run_bytes e count) ≡ 10
unfolding run_bytes
length_run e count = length_laid_out (run_parts e count)

pub length_events : (es : List Event) → length (events_bytes es) ≡ 6 * length es
length_events [] = refl
length_events (e ∷ es) = omega (arith, length-append (event_bytes e) (events_bytes es), length_event e, length_events es)

pub length_written : (l : Limits) (es : List Event) → length (written l es) ≡ 14 + 6 * length es
length_written l es = omega (arith, length-append (header_bytes l) (events_bytes es), length_header l, length_events es)

-- the bytes of a piece's events stand one behind another, and so do those of items
pub events_append : (es fs : List Event) → events_bytes (es ++ fs) ≡ events_bytes es ++ events_bytes fs
events_append [] fs = refl
events_append (e ∷ es) fs = rw (append_assoc, events_append es fs)

pub items_append : (is js : List Item) → items_bytes (is ++ js) ≡ items_bytes is ++ items_bytes js
items_append [] js = refl
items_append (i ∷ is) js = rw (append_assoc, items_append is js)

-- the events of items that stand one behind another
pub unrolled_append : (is js : List Item) → unrolled (is ++ js) ≡ unrolled is ++ unrolled js
unrolled_append [] js = refl
unrolled_append (i ∷ is) js = rw (append_assoc, unrolled_append is js)

-- ---- an old record's events as items

abbrev pub ones : List Event → List Item
ones [] = []
ones (e ∷ es) = one e ∷ ones es

pub ones_bytes : (es : List Event) → items_bytes (ones es) ≡ events_bytes es
ones_bytes [] = refl
ones_bytes (e ∷ es) = rw (ones_bytes es)

pub ones_unrolled : (es : List Event) → unrolled (ones es) ≡ es
ones_unrolled [] = refl
ones_unrolled (e ∷ es) = rw (ones_unrolled es)

pub ones_ok : (runs : Bool) (l : Limits) (es : List Event) → AllValid l es → ItemsOk runs l (ones es)
ones_ok runs l [] v = tt
ones_ok runs l (e ∷ es) v = (v.0, ones_ok runs l es v.1)

-- a record of the old form is one in either
pub ones_formed : (runs : Bool) (l : Limits) (es : List Event) → WellFormed l es → Formed runs l (ones es)
ones_formed runs l es w = record { settings = w.settings; items = ones_ok runs l es w.valid; few = rw (ones_unrolled es) w.few }

pub ones_written : (l : Limits) (es : List Event) → written_items l (ones es) ≡ written l es
ones_written l es = rw (ones_bytes es)

-- ---- sizes: settings in range and events in range fit their bytes

pub limits_fit : (l : Limits) → Holds (limits_ok l) → (l.mtu < 65536) × (l.lo < 4294967296) × (l.hi < 4294967296)
limits_fit l ok = omega arith

pub event_fits : (l : Limits) (e : Event) → Holds (limits_ok l) → Valid l e → (kind_of e < 65536) × (number_of e < 65536)
event_fits l (Waiting x) ok v = omega arith
event_fits l (Idle x) ok v = omega arith
event_fits l (Send z) ok v = omega arith

-- ---- what is written is read back

-- events before the others
abbrev pub behind : List Event → Events → Events
behind [] r = r
behind (e ∷ es) r = onward 0 e (behind es r)

pub behind_none : (es : List Event) → behind es (events []) ≡ events es
behind_none [] = refl
behind_none (e ∷ es) = rw (behind_none es)

pub behind_faulty : (es : List Event) (n : ℕ) → behind es (faulty n) ≡ faulty n
behind_faulty [] n = refl
behind_faulty (e ∷ es) n = rw (behind_faulty es n)

pub behind_events : (es fs : List Event) → behind es (events fs) ≡ events (es ++ fs)
behind_events [] fs = refl
behind_events (e ∷ es) fs = rw (behind_events es fs)

pub behind_append : (es fs : List Event) (r : Events) → behind (es ++ fs) r ≡ behind es (behind fs r)
behind_append [] fs r = refl
behind_append (e ∷ es) fs r = rw (behind_append es fs r)

-- so many of an event
pub ahead_behind : (count : ℕ) (e : Event) (r : Events) → ahead count e r ≡ behind (replicate count e) r
ahead_behind zero e r = refl
ahead_behind (suc count) e r = rw (ahead_behind count e r)

module _ (l : Limits) (ok : Holds (limits_ok l)) where
  pub header_back : (q : List ℕ) → header_of_of (header_bytes l ++ q) ≡ Ok l
  unfolding header_bytes
  header_back q =
      let s = stands_between [] (laid_out (header_parts l)) q in
      let f = limits_fit l ok in
      let a : le 2 (laid_out (header_parts l) ++ q) 0 ≡ 14 = le_part (header_parts l) 0 2 14 (laid_out (header_parts l) ++ q) 0 refl (omega arith) s in
      let b : le 2 (laid_out (header_parts l) ++ q) 2 ≡ 16 = le_part (header_parts l) 1 2 16 (laid_out (header_parts l) ++ q) 0 refl (omega arith) s in
      let m : le 2 (laid_out (header_parts l) ++ q) 4 ≡ l.mtu = le_part (header_parts l) 2 2 l.mtu (laid_out (header_parts l) ++ q) 0 refl (omega arith) s in
      let o : le 4 (laid_out (header_parts l) ++ q) 6 ≡ l.lo = le_part (header_parts l) 3 4 l.lo (laid_out (header_parts l) ++ q) 0 refl (omega arith) s in
      let h : le 4 (laid_out (header_parts l) ++ q) 10 ≡ l.hi = le_part (header_parts l) 4 4 l.hi (laid_out (header_parts l) ++ q) 0 refl (omega arith) s in
      let t : test (limits_ok (limits_at (laid_out (header_parts l) ++ q))) ≡ test (limits_ok l) = rw (m, o, h) in
      let n : 14 ≤ length (laid_out (header_parts l) ++ q) = omega (arith, length-append (laid_out (header_parts l)) q, length_laid_out (header_parts l)) in
      header_settings (laid_out (header_parts l) ++ q) n a b (t ∙ passes (limits_ok l) ok)
      ∙ rw (m, o, h)

module _ (runs : Bool) (late : ℕ) (l : Limits) (ok : Holds (limits_ok l)) where
  pub event_back : (e : Event) → Valid l e → (m : ℕ) (q : List ℕ) →
      read_items runs late l.mtu (suc m) 0 (event_bytes e ++ q) ≡ onward 0 e (read_items runs late l.mtu m 0 q)
  unfolding event_bytes
  event_back e v m q =
      let s = stands_between [] (laid_out (event_parts e)) q in
      let f = event_fits l e ok v in
      let a : le 2 (laid_out (event_parts e) ++ q) 0 ≡ 6 = le_part (event_parts e) 0 2 6 (laid_out (event_parts e) ++ q) 0 refl (omega arith) s in
      let k : le 2 (laid_out (event_parts e) ++ q) 2 ≡ kind_of e = le_part (event_parts e) 1 2 (kind_of e) (laid_out (event_parts e) ++ q) 0 refl (omega arith) s in
      let n : le 2 (laid_out (event_parts e) ++ q) 4 ≡ number_of e = le_part (event_parts e) 2 2 (number_of e) (laid_out (event_parts e) ++ q) 0 refl (omega arith) s in
      let h : 6 ≤ length (laid_out (event_parts e) ++ q) = omega (arith, length-append (laid_out (event_parts e)) q, length_laid_out (event_parts e)) in
      read_good runs l.mtu (laid_out (event_parts e) ++ q) 0 late m h (rw (a, k, n) (good_event l e v))
      ∙ rw (k, n, event_of_lem e, drop_at (laid_out (event_parts e)) q 6 (length_laid_out (event_parts e)))

  -- a run that may stand: as many equal ticks as its count says
  pub run_back : (e : Event) (count : ℕ) → ItemOk runs l (run e count) → (m : ℕ) (q : List ℕ) →
      read_items runs late l.mtu (count + m) 0 (run_bytes e count ++ q) ≡ ahead count e (read_items runs late l.mtu m 0 q)
  unfolding run_bytes
  run_back e count i m q =
      let xs = laid_out (run_parts e count) ++ q in
      let s = stands_between [] (laid_out (run_parts e count)) q in
      let f = event_fits l e ok i.2 in
      let g = tick_first e in
      let a : le 2 (laid_out (run_parts e count) ++ q) 0 ≡ 10 = le_part (run_parts e count) 0 2 10 xs 0 refl (omega arith) s in
      let r : le 2 (laid_out (run_parts e count) ++ q) 2 ≡ 4 = le_part (run_parts e count) 1 2 4 xs 0 refl (omega arith) s in
      let k : le 2 (laid_out (run_parts e count) ++ q) 4 ≡ kind_of e = le_part (run_parts e count) 2 2 (kind_of e) xs 0 refl (omega arith) s in
      let n : le 2 (laid_out (run_parts e count) ++ q) 6 ≡ number_of e = le_part (run_parts e count) 3 2 (number_of e) xs 0 refl (omega arith) s in
      let c : le 2 (laid_out (run_parts e count) ++ q) 8 ≡ count = le_part (run_parts e count) 4 2 count xs 0 refl (omega (arith, i.4)) s in
      let h : 10 ≤ length (laid_out (run_parts e count) ++ q) = omega (arith, length-append (laid_out (run_parts e count)) q, length_laid_out (run_parts e count)) in
      let t = run_at xs 0 r in
      let stands = run_stands runs l.mtu xs 0 (rw i.0 t) t h (rw (a, k, c) (run_good 10 (kind_of e) count refl g (omega (arith, i.1)) i.3)) in
      rw (k, n, c, a, event_of_lem e, drop_at (laid_out (run_parts e count)) q 10 (length_laid_out (run_parts e count)))
      at ((step_stands runs l.mtu xs 0 _ _ _ _ stands).goes_on late m)
    where
      tick_first : (e : Event) → 1 ≤ kind_of e
      tick_first (Waiting x) = omega arith
      tick_first (Idle x) = omega arith
      tick_first (Send z) = omega arith

  pub item_back : (i : Item) → ItemOk runs l i → (m : ℕ) (q : List ℕ) →
      read_items runs late l.mtu (length (unrolled_item i) + m) 0 (item_bytes i ++ q) ≡ behind (unrolled_item i) (read_items runs late l.mtu m 0 q)
  item_back (one e) v m q = rw (suc-add, zero-add) (event_back e v m q)
  item_back (run e count) v m q = rw (length-replicate count e) (run_back e count v m q ∙ ahead_behind count e (read_items runs late l.mtu m 0 q))

  -- items in range, and then what stands behind them
  pub items_then : (is : List Item) (m : ℕ) (q : List ℕ) → ItemsOk runs l is →
      read_items runs late l.mtu (length (unrolled is) + m) 0 (items_bytes is ++ q) ≡ behind (unrolled is) (read_items runs late l.mtu m 0 q)
  items_then [] m q v = rw zero-add
  items_then (i ∷ is) m q v =
      rw (append_assoc, length-append (unrolled_item i) (unrolled is), add_assoc, behind_append (unrolled_item i) (unrolled is))
      (item_back i v.0 (length (unrolled is) + m) (items_bytes is ++ q) ∙ rw (items_then is m q v.1))

  pub items_back : (is : List Item) (left : ℕ) → ItemsOk runs l is → length (unrolled is) ≤ left →
      read_items runs late l.mtu left 0 (items_bytes is) ≡ events (unrolled is)
  items_back is left v h =
      let n = length (unrolled is) in
      let e : left ≡ n + (left - n) = omega arith in
      ap (λ (k : ℕ). read_items runs late l.mtu k 0 (items_bytes is)) e
      ∙ ap (λ (q : List ℕ). read_items runs late l.mtu (n + (left - n)) 0 q) (sym (append-nil (items_bytes is)))
      ∙ items_then is (left - n) [] v
      ∙ rw (read_end runs late l.mtu (left - n) [] 0 (omega arith)) (behind_none (unrolled is))

-- a well-formed record is read back whole, as the events that its items stand for,
pub items_read : (runs : Bool) (l : Limits) (is : List Item) → Formed runs l is → read_in runs (written_items l is) ≡ whole l (unrolled is)
items_read runs l is w =
    read_header runs (written_items l is)
    ∙ rw (
      header_back l w.settings (items_bytes is),
      drop_at (header_bytes l) (items_bytes is) 14 (length_header l),
      items_back runs 9 l w.settings is most_events w.items w.few,
    )

-- and one of the old form whether or not runs may stand.
pub written_read : (runs : Bool) (l : Limits) (es : List Event) → WellFormed l es → read_in runs (written l es) ≡ whole l es
written_read runs l es w =
    ap (read_in runs) (sym (ones_written l es)) ∙ items_read runs l (ones es) (ones_formed runs l es w) ∙ ap (whole l) (ones_unrolled es)
