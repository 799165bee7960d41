-- The items of an old record's events, row by row: they stand for the same events, are in range, and are never longer.
-- Assumes nothing.
use Prim.Native.Nat.{ℕ, zero, suc, ◌+◌, ◌*◌, ◌≤◌, ◌<◌}
use mathlib.Core.Bool.{true, false, ◌&&◌, and-false, false≢true}
use mathlib.Core.List.{List, [], ◌∷◌, ◌++◌}
use mathlib.Core.Path.{◌≡◌, refl, sym, ap, ◌∙◌}
use native.Mathlib.Nat.{zero-add, suc-add, add-suc}
use native.Mathlib.Numerals.{add-one}
use native.Mathlib.Omega.{arith}
use borrow.Author.Tests.{lt-ltb, le-ltb, eq-eqb, ltb-true, eqb-true}
use lib.Dec.{ltb, eqb}
use lib.ListN.{length, take, drop, replicate, length-append}
use Rattle.decide.specs.Test.{both}
use Rattle.decide.proofs.Cases.{by_cases, true_or_false, le_or}
use Rattle.shaper.specs.declared.Limits.{Limits}
use Rattle.shaper.specs.declared.Event.{Event}
use Rattle.shaper.specs.Credit.{Valid, AllValid}
use Rattle.shaper.specs.Kind.{kind_of, number_of, event_of}
use Rattle.shaper.proofs.Kind.{event_of_lem}
use Rattle.record.specs.Record.{events_bytes, WellFormed}
use Rattle.record.specs.Items.{Item, item_bytes, items_bytes, unrolled_item, unrolled, most_of_run, ItemOk, ItemsOk, Formed, item_of}
use Rattle.record.proofs.Written.{length_event, length_run, length_events}
use Rattle.roll.specs.Rolled.{same_tick, rolled_onto, rolled, same_ahead}

-- ---- the same tick

-- the test says that both are one tick,
pub same_tick_lem : (e f : Event) → same_tick e f ≡ true → (kind_of e < 3) × (e ≡ f)
unfolding same_tick
same_tick_lem e f t =
    let b = both (ltb (kind_of e) 3 && eqb (kind_of e) (kind_of f)) (eqb (number_of e) (number_of f)) t in
    let c = both (ltb (kind_of e) 3) (eqb (kind_of e) (kind_of f)) b.0 in
    let k : kind_of e ≡ kind_of f = eqb-true (kind_of e) (kind_of f) c.1 in
    let n : number_of e ≡ number_of f = eqb-true (number_of e) (number_of f) b.1 in
    let s : event_of (kind_of e) (number_of e) ≡ event_of (kind_of f) (number_of f) = rw (k, n) in
    (ltb-true (kind_of e) 3 c.0, sym (event_of_lem e) ∙ s ∙ event_of_lem f)

-- a tick is the same as itself,
pub same_as_itself : (e : Event) → kind_of e < 3 → same_tick e e ≡ true
unfolding same_tick
same_as_itself e h = rw (lt-ltb (kind_of e) 3 h, eq-eqb (kind_of e) (kind_of e) refl, eq-eqb (number_of e) (number_of e) refl)

-- and no other event is.
pub not_same : (e f : Event) → (kind_of e < 3 → e ≡ f → ⊥) → same_tick e f ≡ false
not_same e f o = by_cases (true_or_false (same_tick e f)) (λ t. absurd (o (same_tick_lem e f t).0 (same_tick_lem e f t).1)) (λ t. t)

pub other_tick : (e f : Event) → same_tick e f ≡ false → kind_of e < 3 → e ≡ f → ⊥
other_tick e f t k q =
    let s : same_tick e f ≡ true = rw (← q) (same_as_itself e k) in
    false≢true (sym t ∙ s)

-- ---- the rows

-- no event behind them: they are an item
pub row_last : (e : Event) (count : ℕ) → rolled_onto e count [] ≡ item_of e count ∷ []
unfolding rolled_onto
row_last e count = refl

-- the same tick behind fewer than 65,535: one more
pub row_grows : (e : Event) (count : ℕ) (fs : List Event) → count < most_of_run → kind_of e < 3 → rolled_onto e count (e ∷ fs) ≡ rolled_onto e (suc count) fs
unfolding rolled_onto
row_grows e count fs h k = rw (lt-ltb count most_of_run h, same_as_itself e k)

-- 65,535 are reached: an item, and the next begins
pub row_full : (e : Event) (count : ℕ) (f : Event) (fs : List Event) → most_of_run ≤ count → rolled_onto e count (f ∷ fs) ≡ item_of e count ∷ rolled_onto f 1 fs
unfolding rolled_onto
row_full e count f fs h = rw (le-ltb count most_of_run h)

-- another event: an item, and the next begins
pub row_anew : (e : Event) (count : ℕ) (f : Event) (fs : List Event) → (kind_of e < 3 → e ≡ f → ⊥) → rolled_onto e count (f ∷ fs) ≡ item_of e count ∷ rolled_onto f 1 fs
unfolding rolled_onto
row_anew e count f fs other = rw (not_same e f other, and-false (ltb count most_of_run))

-- either of the two
pub row_apart : (e : Event) (count : ℕ) (f : Event) (fs : List Event) → (count < most_of_run → kind_of e < 3 → e ≡ f → ⊥) →
    rolled_onto e count (f ∷ fs) ≡ item_of e count ∷ rolled_onto f 1 fs
row_apart e count f fs apart =
    by_cases (le_or most_of_run count) (λ full. row_full e count f fs full) (λ less. row_anew e count f fs (apart less))

-- The same rows as a relation, for proofs that go by them: `count` of e before these events roll to those items.
pub data Rolls : Event → ℕ → List Event → List Item → Type 0 where
  last : {e : Event} {count : ℕ} → Rolls e count [] (item_of e count ∷ [])
  grows : {e : Event} {count : ℕ} {fs : List Event} {is : List Item} → count < most_of_run → kind_of e < 3 → Rolls e (suc count) fs is → Rolls e count (e ∷ fs) is
  anew : {e f : Event} {count : ℕ} {fs : List Event} {is : List Item} → (count < most_of_run → kind_of e < 3 → e ≡ f → ⊥) → Rolls f 1 fs is →
      Rolls e count (f ∷ fs) (item_of e count ∷ is)

rolls_anew : (e : Event) (count : ℕ) (f : Event) (fs : List Event) → (count < most_of_run → kind_of e < 3 → e ≡ f → ⊥) → Rolls f 1 fs (rolled_onto f 1 fs) →
    Rolls e count (f ∷ fs) (rolled_onto e count (f ∷ fs))
rolls_anew e count f fs o r = rw (row_apart e count f fs o) (anew o r)

pub rolls : (e : Event) (count : ℕ) (es : List Event) → Rolls e count es (rolled_onto e count es)
rolls e count [] = rw (row_last e count) last
rolls e count (f ∷ fs) =
    by_cases (le_or most_of_run count)
    (λ full. rolls_anew e count f fs (λ (less : count < most_of_run). absurd (omega arith)) (rolls f 1 fs))
    (λ less. by_cases (true_or_false (same_tick e f))
    (λ t. let s = same_tick_lem e f t in rw (← s.1, row_grows e count fs less s.0) (grows less s.0 (rolls e (suc count) fs)))
    (λ t. rolls_anew e count f fs (λ l. other_tick e f t) (rolls f 1 fs)))

-- ---- the same events

item_of_lem : (e : Event) (n : ℕ) → unrolled_item (item_of e (suc n)) ≡ replicate (suc n) e
item_of_lem e zero = refl
item_of_lem e (suc n) = refl

-- one more at the end of equal events is one more at their front
one_more : (n : ℕ) (e : Event) (es : List Event) → replicate n e ++ (e ∷ es) ≡ e ∷ (replicate n e ++ es)
one_more zero e es = refl
one_more (suc n) e es = ap (λ (fs : List Event). e ∷ fs) (one_more n e es)

onto_unrolled : {e : Event} {n : ℕ} {es : List Event} {is : List Item} → Rolls e (suc n) es is → unrolled is ≡ replicate (suc n) e ++ es
onto_unrolled {e} {n} last = rw (item_of_lem e n)
onto_unrolled {e} {n} (grows {fs} h k r) = onto_unrolled r ∙ ap (λ (gs : List Event). e ∷ gs) (sym (one_more n e fs))
onto_unrolled {e} {n} (anew o r) = rw (item_of_lem e n, onto_unrolled r)

-- Rolled and back, the events are the same.
pub rolled_unrolled : (es : List Event) → unrolled (rolled es) ≡ es
unfolding rolled
rolled_unrolled [] = refl
rolled_unrolled (e ∷ es) = onto_unrolled (rolls e 1 es)

-- ---- items in range

module _ (l : Limits) where
  item_ok : (e : Event) (n : ℕ) → Valid l e → suc n ≤ most_of_run → (0 < n → kind_of e < 3) → ItemOk true l (item_of e (suc n))
  item_ok e zero v m k = v
  item_ok e (suc n) v m k = (refl, k (omega arith), v, omega arith, m)

  onto_ok : {e : Event} {n : ℕ} {es : List Event} {is : List Item} → Rolls e (suc n) es is → suc n ≤ most_of_run → (0 < n → kind_of e < 3) → Valid l e → AllValid l es →
      ItemsOk true l is
  onto_ok {e} {n} last m k v a = (item_ok e n v m k, tt)
  onto_ok (grows h t r) m k v a = onto_ok r (omega arith) (λ z. t) v a.1
  onto_ok {e} {n} (anew o r) m k v a = (item_ok e n v m k, onto_ok r (omega arith) (λ (z : 0 < 0). absurd (omega arith)) a.0 a.1)

  -- Events in range give items in range,
  pub rolled_ok : (es : List Event) → AllValid l es → ItemsOk true l (rolled es)
  unfolding rolled
  rolled_ok [] a = tt
  rolled_ok (e ∷ es) a = onto_ok (rolls e 1 es) (omega arith) (λ (z : 0 < 0). absurd (omega arith)) a.0 a.1

  -- and what may be written in the old form may be written in the new one.
  pub rolled_formed : (es : List Event) → WellFormed l es → Formed true l (rolled es)
  rolled_formed es w = record { settings = w.settings; items = rolled_ok es w.valid; few = rw (rolled_unrolled es) w.few }

-- ---- never longer

item_shorter : (e : Event) (n : ℕ) → length (item_bytes (item_of e (suc n))) ≤ 6 * suc n
item_shorter e zero = omega (arith, length_event e)
item_shorter e (suc n) = omega (arith, length_run e (suc (suc n)))

onto_shorter : {e : Event} {n : ℕ} {es : List Event} {is : List Item} → Rolls e (suc n) es is → length (items_bytes is) ≤ 6 * (suc n + length es)
onto_shorter {e} {n} last = omega (arith, length-append (item_bytes (item_of e (suc n))) [], item_shorter e n)
onto_shorter (grows h k r) = omega (arith, onto_shorter r)
onto_shorter {e} {n} (anew {is} o r) = omega (arith, length-append (item_bytes (item_of e (suc n))) (items_bytes is), item_shorter e n, onto_shorter r)

-- A run of 10 bytes stands for at least two events of 6.
pub rolled_shorter : (es : List Event) → length (items_bytes (rolled es)) ≤ length (events_bytes es)
unfolding rolled
rolled_shorter [] = omega arith
rolled_shorter (e ∷ es) = omega (arith, onto_shorter (rolls e 1 es), length_events (e ∷ es))

-- ---- the first item, and those behind it

-- how many are the same tick, row by row: one more,
pub ahead_grows : (most : ℕ) (e : Event) (fs : List Event) → kind_of e < 3 → same_ahead (suc most) e (e ∷ fs) ≡ suc (same_ahead most e fs)
unfolding same_ahead
ahead_grows most e fs k = rw (same_as_itself e k)

-- or another event, and no more of them.
pub ahead_stops : (most : ℕ) (e f : Event) (fs : List Event) → (kind_of e < 3 → e ≡ f → ⊥) → same_ahead most e (f ∷ fs) ≡ 0
unfolding same_ahead
ahead_stops zero e f fs other = refl
ahead_stops (suc most) e f fs other = rw (not_same e f other)

-- They are no more than may be, and stand at the front.
pub ahead_stand : (most : ℕ) (e : Event) (es : List Event) → (same_ahead most e es ≤ most) × (take (same_ahead most e es) es ≡ replicate (same_ahead most e es) e)
unfolding same_ahead
ahead_stand zero e es = (omega arith, refl)
ahead_stand (suc most) e [] = (omega arith, refl)
ahead_stand (suc most) e (f ∷ fs) =
    by_cases (true_or_false (same_tick e f))
    (λ t. let r = ahead_stand most e fs in rw (t, ← (same_tick_lem e f t).1) (omega arith, ap (λ (gs : List Event). e ∷ gs) r.1))
    (λ t. rw t (omega arith, refl))

onto_front : (m n : ℕ) (e : Event) (es : List Event) → m + suc n ≡ most_of_run →
    rolled_onto e (suc n) es ≡ item_of e (same_ahead m e es + suc n) ∷ rolled (drop (same_ahead m e es) es)
unfolding same_ahead rolled
onto_front zero n e [] h = rw (zero-add, row_last e (suc n))
onto_front zero n e (f ∷ fs) h = rw (zero-add, row_full e (suc n) f fs (omega arith))
onto_front (suc m) n e [] h = rw (zero-add, row_last e (suc n))
onto_front (suc m) n e (f ∷ fs) h =
    by_cases (true_or_false (same_tick e f))
    (λ t. let s = same_tick_lem e f t in
    rw (t, ← s.1, row_grows e (suc n) fs (omega arith) s.0, suc-add, ← add-suc (same_ahead m e fs) (suc n)) (onto_front m (suc n) e fs (omega arith)))
    (λ t. rw (t, row_anew e (suc n) f fs (other_tick e f t), zero-add))

-- The first item takes every event from the front that is the same tick, up to 65,535.
pub rolled_front : (e : Event) (es : List Event) →
    rolled (e ∷ es) ≡ item_of e (suc (same_ahead 65534 e es)) ∷ rolled (drop (same_ahead 65534 e es) es)
unfolding rolled
rolled_front e es = onto_front 65534 0 e es refl ∙ rw (add-one (same_ahead 65534 e es))
