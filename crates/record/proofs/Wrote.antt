-- Whatever is read whole, or before a fault, is what a writer writes, in the form that is read.
-- Assumes nothing.
use Rattle.std.specs.Prelude.{Ok, Err, Some, None}
use Prim.Native.Nat.{ℕ, zero, suc, ◌+◌, ◌-◌, ◌≤◌, ◌<◌}
use mathlib.Core.Bool.{Bool, true, false}
use mathlib.Core.List.{List, [], ◌∷◌, ◌++◌, append_assoc}
use mathlib.Core.Logic.{⊎_elim}
use mathlib.Core.Path.{◌≡◌, refl, sym, ap, ◌∙◌}
use native.Mathlib.Omega.{arith}
use native.Mathlib.Nat.{zero-add}
use lib.ListN.{length, drop, replicate, length-append, length-replicate}
use Rattle.decide.specs.Test.{Holds}
use Rattle.decide.proofs.Cases.{by_cases, le_or}
use Rattle.shaper.specs.declared.Limits.{Limits}
use Rattle.shaper.specs.declared.Event.{Event}
use Rattle.shaper.specs.Limits.{limits_ok, most_events}
use Rattle.shaper.specs.Credit.{Valid, AllValid}
use Rattle.shaper.specs.Kind.{kind_of, number_of, event_of}
use Rattle.wire.specs.Wire.{digits, put, Bytes}
use Rattle.wire.specs.Parts.{Part, laid_out, sizes, length_laid_out}
use Rattle.wire.proofs.Numbers.{digits_stand}
use Rattle.wire.proofs.Places.{bytes_drop}
use Rattle.wire.proofs.Places as Places
use Rattle.wire.proofs.Laid.{laid_put, laid_standing, Standing}
use Rattle.record.specs.Record.{header_parts, event_parts, header_bytes, event_bytes, events_bytes, written, WellFormed}
use Rattle.record.specs.Items.{Item, one, run, run_parts, run_bytes, item_bytes, items_bytes, written_items, unrolled_item, unrolled, ItemOk, ItemsOk, Formed}
use Rattle.record.specs.Read.{limits_at, Events, faulty, events, read_items, Read, unreadable, whole, under, read_in}
use Rattle.record.specs.Step.{header_of_of, item_at, Header, Step, header_number, step_number}
use Rattle.record.specs.Cause.{Why, too_many, has_fault, passes, Cause, in_header, behind_items}
use Rattle.record.proofs.Fields.{event_good}
use Rattle.record.proofs.Steps.{Headed, EventThere, RunThere, Stood, read_by, read_header, header_stands, header_faulty, read_end, read_over, step_stands, step_end, step_faulty, stood_bound, count_bound}
use Rattle.record.proofs.Refused.{header_refused_exactly, item_refused_exactly}
use Rattle.record.proofs.Written.{behind, behind_faulty, behind_events, ahead_behind, ones, ones_bytes}
use Rattle.decide.specs.Number.{number_in}

-- ---- what stands at the front

-- parts that stand at the front are the front
front : (ps : List Part) (xs : List ℕ) → sizes ps ≤ length xs → Standing xs 0 ps → xs ≡ laid_out ps ++ drop (sizes ps) xs
unfolding put
front ps xs h s =
    sym (laid_standing ps xs 0 (omega arith) s) ∙ laid_put ps xs 0 (omega arith) ∙ rw (length_laid_out ps, zero-add)

module _ (ys : List ℕ) (b : Bytes ys) where
  pub header_front : (l : Limits) → Headed ys l → ys ≡ header_bytes l ++ drop 14 ys
  unfolding header_bytes
  header_front l h =
      let p : Places.Stands ys 0 (digits 2 14) = rw h.length_field at (digits_stand 2 ys 0 b) in
      let k : Places.Stands ys 2 (digits 2 16) = rw h.kind_field at (digits_stand 2 ys 2 b) in
      rw h.settings (front (header_parts (limits_at ys)) ys h.long (p, (k, (digits_stand 2 ys 4 b, (digits_stand 4 ys 6 b, (digits_stand 4 ys 10 b, tt))))))

  module _ (k v c next : ℕ) (g : (kind_of (event_of k v) ≡ k) × (number_of (event_of k v) ≡ v)) (fits : next ≤ length ys) where
    event_front : EventThere ys 0 k v c next → ys ≡ event_bytes (event_of k v) ++ drop next ys
    unfolding event_bytes
    event_front s =
        let p : Places.Stands ys 0 (digits 2 6) = rw s.length_field at (digits_stand 2 ys 0 b) in
        let q : Places.Stands ys 2 (digits 2 (kind_of (event_of k v))) = rw (g.0, s.kind_field) (digits_stand 2 ys 2 b) in
        let n : Places.Stands ys 4 (digits 2 (number_of (event_of k v))) = rw (g.1, s.number_field) (digits_stand 2 ys 4 b) in
        rw s.six (front (event_parts (event_of k v)) ys (omega (arith, s.six)) (p, (q, (n, tt))))

    run_front : RunThere ys 0 k v c next → ys ≡ run_bytes (event_of k v) c ++ drop next ys
    unfolding run_bytes
    run_front s =
        let p : Places.Stands ys 0 (digits 2 10) = rw s.length_field at (digits_stand 2 ys 0 b) in
        let r : Places.Stands ys 2 (digits 2 4) = rw s.run_field at (digits_stand 2 ys 2 b) in
        let q : Places.Stands ys 4 (digits 2 (kind_of (event_of k v))) = rw (g.0, s.kind_field) (digits_stand 2 ys 4 b) in
        let n : Places.Stands ys 6 (digits 2 (number_of (event_of k v))) = rw (g.1, s.number_field) (digits_stand 2 ys 6 b) in
        let m : Places.Stands ys 8 (digits 2 c) = rw s.count_field (digits_stand 2 ys 8 b) in
        rw s.ten (front (run_parts (event_of k v) c) ys (omega (arith, s.ten)) (p, (r, (q, (n, (m, tt))))))

-- the item that stands at the front: its bytes, its range and its events
pub record Fronts (runs : Bool) (l : Limits) (ys : List ℕ) (k v c next : ℕ) : Type 0 where
  pub item : Item
  pub same : ys ≡ item_bytes item ++ drop next ys
  pub ok : ItemOk runs l item
  pub repeats : unrolled_item item ≡ replicate c (event_of k v)

pub item_front : (runs : Bool) (l : Limits) (ys : List ℕ) → Bytes ys → (k v c next : ℕ) → Stood runs l.mtu ys 0 k v c next → Fronts runs l ys k v c next
item_front runs l ys b k v c next s =
    let g = event_good l.mtu 6 k v s.fields in
    let valid = s.valid l refl (stood_bound runs l.mtu ys 0 k v c next b s) in
    ⊎_elim
    (λ e. record { item = one (event_of k v); same = event_front ys b k v c next g s.fits e; ok = valid; repeats = rw e.one })
    (λ r. record {
      item = run (event_of k v) c;
      same = run_front ys b k v c next g s.fits r.1;
      ok = (r.0, omega (arith, g.0, r.1.tick), valid, r.1.many, count_bound runs l.mtu ys 0 k v c next b s);
      repeats = refl;
    })
    s.there

-- ---- what is read was written

-- events that are read from ys, of which `left` may come, are those of items that were written there
pub record Wrote (runs : Bool) (l : Limits) (left : ℕ) (ys : List ℕ) (es : List Event) : Type 0 where
  pub items : List Item
  pub same : ys ≡ items_bytes items
  pub ok : ItemsOk runs l items
  pub gives : es ≡ unrolled items
  pub few : length es ≤ left

-- a fault that is read from ys: what stands before it was written, and it is at the front of the rest
pub record Stopped (runs : Bool) (late : ℕ) (l : Limits) (left : ℕ) (ys : List ℕ) (n : ℕ) : Type 0 where
  pub before : List Item
  pub rest : List ℕ
  pub same : ys ≡ items_bytes before ++ rest
  pub ok : ItemsOk runs l before
  pub few : length (unrolled before) ≤ left
  pub some : 0 < length rest
  pub why : Why runs late l.mtu left (length (unrolled before)) rest n

abbrev Says : Bool → ℕ → Limits → ℕ → List ℕ → Events → Type 0
Says runs late l left ys (faulty n) = Stopped runs late l left ys n
Says runs late l left ys (events es) = Wrote runs l left ys es

wrote_none : (runs : Bool) (l : Limits) (left : ℕ) (ys : List ℕ) → ys ≡ [] → Wrote runs l left ys []
wrote_none runs l left ys e = record { items = []; same = e; ok = tt; gives = refl; few = omega arith }

-- a fault at the front
here : (runs : Bool) (late : ℕ) (l : Limits) (left : ℕ) (ys : List ℕ) (n : ℕ) → 0 < length ys → Why runs late l.mtu left 0 ys n → Stopped runs late l left ys n
here runs late l left ys n h w = record { before = []; rest = ys; same = refl; ok = tt; few = omega arith; some = h; why = w }

-- bytes before two others
before : (hs us q ys zs : List ℕ) → ys ≡ hs ++ zs → zs ≡ us ++ q → ys ≡ (hs ++ us) ++ q
before hs us q ys zs f e = f ∙ ap (λ (r : List ℕ). hs ++ r) e ∙ sym (append_assoc hs us q)

why_more : (runs : Bool) (late mtu m k c : ℕ) (q : List ℕ) (n : ℕ) → Why runs late mtu m k q n → Why runs late mtu (c + m) (c + k) q n
why_more runs late mtu m k c q n (too_many e z) = too_many (ap (λ (x : ℕ). c + x) e) z
why_more runs late mtu m k c q n (has_fault h g) = has_fault (omega arith) g
why_more runs late mtu m k c q n (passes h f p z) = passes (omega arith) f (omega arith) z

-- an item before them
onto : (runs : Bool) (late : ℕ) (l : Limits) (m : ℕ) (i : Item) (ys zs : List ℕ) → ys ≡ item_bytes i ++ zs → ItemOk runs l i → (r : Events) → Says runs late l m zs r →
    Says runs late l (length (unrolled_item i) + m) ys (behind (unrolled_item i) r)
onto runs late l m i ys zs f v (faulty n) s =
    let size = length-append (unrolled_item i) (unrolled s.before) in
    rw (behind_faulty (unrolled_item i) n)
    (record {
      before = i ∷ s.before;
      rest = s.rest;
      same = before (item_bytes i) (items_bytes s.before) s.rest ys zs f s.same;
      ok = (v, s.ok);
      few = omega (arith, s.few, size);
      some = s.some;
      why = rw size (why_more runs late l.mtu m (length (unrolled s.before)) (length (unrolled_item i)) s.rest n s.why);
    })
onto runs late l m i ys zs f v (events es) s =
    let size = length-append (unrolled_item i) es in
    rw (behind_events (unrolled_item i) es)
    (record {
      items = i ∷ s.items;
      same = f ∙ ap (λ (q : List ℕ). item_bytes i ++ q) s.same;
      ok = (v, s.ok);
      gives = ap (λ (q : List Event). unrolled_item i ++ q) s.gives;
      few = omega (arith, s.few, size);
    })

pub nothing_left : (ys : List ℕ) → length ys ≤ 0 → ys ≡ []
nothing_left [] h = refl
nothing_left (y ∷ ys) h = absurd (omega arith)

-- what stands at the front, where what stands behind it says so
module _ (runs : Bool) (late : ℕ) (l : Limits) (m : ℕ) (ys : List ℕ) (b : Bytes ys) (ih : (left : ℕ) (zs : List ℕ) → left ≤ m → Bytes zs → Says runs late l left zs (read_items runs late l.mtu left 0 zs)) where
  stands_says : (k v c next : ℕ) → Stood runs l.mtu ys 0 k v c next → Says runs late l (suc m) ys (read_items runs late l.mtu (suc m) 0 ys)
  stands_says k v c next s =
      by_cases (le_or c (suc m))
      (λ few. let f = item_front runs l ys b k v c next s in
      let left = suc m - c in
      let zs = drop next ys in
      let size : length (unrolled_item f.item) ≡ c = ap length f.repeats ∙ length-replicate c (event_of k v) in
      let sum : suc m ≡ c + left = omega arith in
      let rest = read_items runs late l.mtu left 0 zs in
      let told : read_items runs late l.mtu (c + left) 0 ys ≡ behind (unrolled_item f.item) rest =
      s.goes_on late left ∙ ahead_behind c (event_of k v) rest ∙ ap (λ (q : List Event). behind q rest) (sym f.repeats) in
      let more = onto runs late l left f.item ys zs f.same f.ok rest (ih left zs (omega (arith, s.some)) (bytes_drop next ys b)) in
      rw (sum, told) (rw size at more))
      (λ few. rw (s.passes late (suc m) few)
      (here runs late l (suc m) ys late (omega (arith, s.fits, s.further)) (passes (omega arith) s.free (omega (arith, s.counts)) refl)))

  step_says : (s : Step) → item_at runs l.mtu ys 0 ≡ s → Says runs late l (suc m) ys (read_items runs late l.mtu (suc m) 0 ys)
  step_says (Ok None) e =
      let h = step_end runs l.mtu ys 0 e in
      rw (read_end runs late l.mtu (suc m) ys 0 h) (wrote_none runs l (suc m) ys (nothing_left ys h))
  step_says (Err r) e =
      let s = step_faulty runs l.mtu ys 0 r e in
      rw (s.stops late m)
      (here runs late l (suc m) ys (number_in r) s.some (has_fault (omega arith) ((item_refused_exactly runs l.mtu ys 0 (number_in r) s.some s.given).0 (ap step_number e))))
  step_says (Ok (Some p)) e = stands_says p.kind p.number p.count p.next (step_stands runs l.mtu ys 0 p.kind p.number p.count p.next e)

-- one item at a time
module _ (runs : Bool) (late : ℕ) (l : Limits) where
  says_one : (left : ℕ) (ys : List ℕ) → Bytes ys → ((k : ℕ) (zs : List ℕ) → k < left → Bytes zs → Says runs late l k zs (read_items runs late l.mtu k 0 zs)) →
      Says runs late l left ys (read_items runs late l.mtu left 0 ys)
  says_one zero [] b ih = rw (read_end runs late l.mtu 0 [] 0 (omega arith)) (wrote_none runs l 0 [] refl)
  says_one zero (y ∷ ys) b ih = rw (read_over runs late l.mtu (y ∷ ys) 0 (omega arith)) (here runs late l 0 (y ∷ ys) late (omega arith) (too_many refl refl))
  says_one (suc m) ys b ih = step_says runs late l m ys b (λ k zs few c. ih k zs (omega arith) c) (item_at runs l.mtu ys 0) refl

  -- the first argument is no less than how many events may come
  says_by : (fuel left : ℕ) (ys : List ℕ) → left ≤ fuel → Bytes ys → Says runs late l left ys (read_items runs late l.mtu left 0 ys)
  says_by zero left ys h b = says_one left ys b (λ k zs p c. absurd (omega arith))
  says_by (suc fuel) left ys h b = says_one left ys b (λ k zs p c. says_by fuel k zs (omega arith) c)

says : (runs : Bool) (late : ℕ) (l : Limits) (left : ℕ) (ys : List ℕ) → Bytes ys → Says runs late l left ys (read_items runs late l.mtu left 0 ys)
says runs late l left ys b = says_by runs late l left left ys (omega arith) b

pub items_written : (runs : Bool) (late : ℕ) (l : Limits) (left : ℕ) (ys : List ℕ) (es : List Event) → Bytes ys → read_items runs late l.mtu left 0 ys ≡ events es →
    Wrote runs l left ys es
items_written runs late l left ys es b e = rw e at (says runs late l left ys b)

pub items_stopped : (runs : Bool) (late : ℕ) (l : Limits) (left : ℕ) (ys : List ℕ) (n : ℕ) → Bytes ys → read_items runs late l.mtu left 0 ys ≡ faulty n →
    Stopped runs late l left ys n
items_stopped runs late l left ys n b e = rw e at (says runs late l left ys b)

-- ---- the whole

-- a record that a writer wrote, of these events
pub record WroteWhole (runs : Bool) (xs : List ℕ) (l : Limits) (es : List Event) : Type 0 where
  pub items : List Item
  pub same : xs ≡ written_items l items
  pub formed : Formed runs l items
  pub gives : es ≡ unrolled items

abbrev pub SaysWhole : Bool → List ℕ → Read → Type 0
SaysWhole runs xs (unreadable n) = Cause runs xs n
SaysWhole runs xs (whole l es) = WroteWhole runs xs l es

under_says : (runs : Bool) (l : Limits) (xs zs : List ℕ) → xs ≡ header_bytes l ++ zs → Holds (limits_ok l) → (r : Events) → Says runs 9 l most_events zs r →
    SaysWhole runs xs (under l r)
under_says runs l xs zs f ok (faulty n) s =
    behind_items l s.before s.rest
    (before (header_bytes l) (items_bytes s.before) s.rest xs zs f s.same)
    (record { settings = ok; items = s.ok; few = s.few })
    s.some
    s.why
under_says runs l xs zs f ok (events es) s =
    record {
      items = s.items;
      same = f ∙ ap (λ (q : List ℕ). header_bytes l ++ q) s.same;
      formed = record { settings = ok; items = s.ok; few = rw s.gives at s.few };
      gives = s.gives;
    }

-- what any bytes say
pub says_whole : (runs : Bool) (xs : List ℕ) → Bytes xs → SaysWhole runs xs (read_in runs xs)
says_whole runs xs b = rw (read_header runs xs) (by (header_of_of xs) refl)
  where
    by : (h : Header) → header_of_of xs ≡ h → SaysWhole runs xs (read_by runs xs h)
    by (Ok l) e =
        let h = header_stands xs l e in
        under_says runs l xs (drop 14 xs) (header_front xs b l h) h.in_range_lem (read_items runs 9 l.mtu most_events 0 (drop 14 xs))
        (says runs 9 l most_events (drop 14 xs) (bytes_drop 14 xs b))
    by (Err r) e = in_header ((header_refused_exactly xs (number_in r) (header_faulty runs xs r e).0).0 (ap header_number e))

-- bytes that are read whole are what a writer writes, of settings and items in range
pub read_items_lem : (runs : Bool) (xs : List ℕ) (l : Limits) (es : List Event) → Bytes xs → read_in runs xs ≡ whole l es → WroteWhole runs xs l es
read_items_lem runs xs l es b e = rw e at (says_whole runs xs b)

-- ---- the old form

-- items among which is no run are events,
pub only_ones : (l : Limits) (is : List Item) → ItemsOk false l is → is ≡ ones (unrolled is)
only_ones l [] v = refl
only_ones l (one e ∷ is) v = ap (λ (q : List Item). one e ∷ q) (only_ones l is v.1)
only_ones l (run e count ∷ is) v = let z : ◌≡◌ {A = ℕ} 0 1 = no v.0.0 in absurd (omega arith)
  where
    no : false ≡ true → ◌≡◌ {A = ℕ} 0 1
    no e = cc

-- equal events in range, before others
valid_more : (l : Limits) (e : Event) (n : ℕ) (es : List Event) → Valid l e → AllValid l es → AllValid l (replicate n e ++ es)
valid_more l e zero es u v = v
valid_more l e (suc n) es u v = (u, valid_more l e n es u v)

-- the events of items in range are in range
pub items_valid : (runs : Bool) (l : Limits) (is : List Item) → ItemsOk runs l is → AllValid l (unrolled is)
items_valid runs l [] v = tt
items_valid runs l (one e ∷ is) v = (v.0, items_valid runs l is v.1)
items_valid runs l (run e count ∷ is) v = valid_more l e count (unrolled is) v.0.2 (items_valid runs l is v.1)

-- a record's events are well-formed, in either form
pub formed_events : (runs : Bool) (l : Limits) (is : List Item) → Formed runs l is → WellFormed l (unrolled is)
formed_events runs l is w = record { settings = w.settings; valid = items_valid runs l is w.items; few = w.few }

-- and of the old form they are all that was written
pub read_written : (xs : List ℕ) (l : Limits) (es : List Event) → Bytes xs → read_in false xs ≡ whole l es → (xs ≡ written l es) × WellFormed l es
read_written xs l es b e =
    let w = read_items_lem false xs l es b e in
    let bytes : items_bytes w.items ≡ events_bytes (unrolled w.items) = ap items_bytes (only_ones l w.items w.formed.items) ∙ ones_bytes (unrolled w.items) in
    (w.same ∙ ap (λ (q : List ℕ). header_bytes l ++ q) (bytes ∙ ap events_bytes (sym w.gives)), rw (sym w.gives) at (formed_events false l w.items w.formed))
