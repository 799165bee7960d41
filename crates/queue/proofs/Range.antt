-- The test of a queue is its range, both ways: slot i of the test is slot (head + j) % 128 of the range for one j below 128, and the bytes in all slots
-- are those of the frames held, since the other slots are 0. Assumes nothing.
use Prim.Native.Nat.{ℕ, zero, suc, ◌+◌, ◌-◌, ◌%◌, ◌<◌, ◌≤◌}
use mathlib.Core.Path.{◌≡◌, refl, ap, sym, subst, ◌∙◌}
use mathlib.Core.List.{List}
use mathlib.Core.Logic.{◌⊎◌, inl, inr, ⊎_elim}
use mathlib.Core.Bool.{Bool, true, false, not, ◌&&◌, ◌||◌, and_assoc, and-true, or-false}
use lib.Dec.{ltb, eqb}
use native.Mathlib.Numerals.{add-one}
use native.Mathlib.Omega.{arith}
use lib.ListN.{length, get_or}
use borrow.Author.Tests.{lt-ltb, le-ltb}
use Rattle.decide.specs.Test.{Test, test, Holds, split, ◌≤?◌, ◌<?◌, ◌≡?◌, ◌∧?◌}
use Rattle.decide.proofs.Tests.{same_test}
use Rattle.queue.specs.declared.Bounds.{Bounds}
use Rattle.queue.specs.declared.Queue.{Queue}
use Rattle.queue.specs.Frame.{frame_of, held_ok, HeldOk}
use Rattle.queue.specs.Queue.{frames_from, frames_of, sizes}
use Rattle.queue.specs.Range.{QueueOk, occupied, slot_ok, each_from, slots_ok, empty_ok, bytes_in, queue_ok}
use Rattle.queue.proofs.Word.{held_facts, held_holds}
use Rattle.queue.proofs.Ring.{from_more, from_done, held_sum, zero_sizes, all_in, in_all}

-- ---- the slots one by one, and all

here_or_further : (j i : ℕ) → i ≤ j → (j ≡ i) ⊎ (suc i ≤ j)
here_or_further j i p = ⊎_elim (λ (l : j ≤ i). inl (omega arith)) (λ l. inr (omega arith)) (split (j ≤? i))

module _ (at : ℕ → Test) where
  from_each : (i k : ℕ) → Holds (each_from at i k) → (j : ℕ) → i ≤ j → j < i + k → Holds (at j)
  unfolding each_from
  from_each i zero e j p l = absurd (omega arith)
  from_each i (suc k) e j p l =
      ⊎_elim
      (λ (x : j ≡ i). subst (λ (m : ℕ). Holds (at m)) (sym x) e.0)
      (λ (y : suc i ≤ j). from_each (suc i) k e.1 j y (omega arith))
      (here_or_further j i p)

  to_each : (i k : ℕ) → ((j : ℕ) → i ≤ j → j < i + k → Holds (at j)) → Holds (each_from at i k)
  unfolding each_from
  to_each i zero f = omega arith
  to_each i (suc k) f = (f i (omega arith) (omega arith), to_each (suc i) k (λ j p l. f j (omega arith) (omega arith)))

-- the test of slot j
abbrev pub slot_at : Bounds → ℕ → ℕ → List ℕ → ℕ → Test
slot_at bounds h n s j = slot_ok bounds (occupied h n j) (get_or s j 0)

-- ---- what a slot holds, by whether it is occupied

module _ (bounds : Bounds) (o : Bool) (w : ℕ) where
  slot_frame : o ≡ true → Holds (slot_ok bounds o w) → HeldOk bounds (frame_of w)
  unfolding slot_ok
  slot_frame e h = held_facts bounds (frame_of w) (rw e at h)

  frame_slot : o ≡ true → HeldOk bounds (frame_of w) → Holds (slot_ok bounds o w)
  unfolding slot_ok
  frame_slot e r = rw e (held_holds bounds (frame_of w) r)

  slot_zero : o ≡ false → Holds (slot_ok bounds o w) → w ≡ 0
  unfolding slot_ok
  slot_zero e h = rw e at h

  zero_slot : o ≡ false → w ≡ 0 → Holds (slot_ok bounds o w)
  unfolding slot_ok
  zero_slot e z = rw e z

-- the test of a slot as code makes it
pub slot_test : (bounds : Bounds) (o : Bool) (w : ℕ) → ((o && test (held_ok bounds (frame_of w))) || (not o && eqb w 0)) ≡ test (slot_ok bounds o w)
unfolding slot_ok test
slot_test bounds true w = or-false _
slot_test bounds false w = refl

occupied_yes : (h n j : ℕ) → h < 128 → j < 128 → j < n → occupied h n ((h + j) % 128) ≡ true
unfolding occupied
occupied_yes h n j p l m = lt-ltb ((128 - h + (h + j) % 128) % 128) n (omega arith)

occupied_no : (h n j : ℕ) → h < 128 → j < 128 → n ≤ j → occupied h n ((h + j) % 128) ≡ false
unfolding occupied
occupied_no h n j p l m = le-ltb ((128 - h + (h + j) % 128) % 128) n (omega arith)

occupied_none : (h i : ℕ) → occupied h 0 i ≡ false
unfolding occupied
occupied_none h i = le-ltb ((128 - h + i) % 128) 0 (omega arith)

-- the turn of a slot, counted from (128 - h) % 128 on
pub turned : (h n i t : ℕ) → h < 128 → t ≡ (128 - h) % 128 + i → ltb (t % 128) n ≡ occupied h n i
unfolding occupied
turned h n i t p e = let k : t % 128 ≡ (128 - h + i) % 128 = omega arith in rw k

-- ---- the test and the range

pub queue_facts : (bounds : Bounds) (capacity : ℕ) (q : Queue) → Holds (queue_ok bounds capacity q) → QueueOk bounds capacity q
unfolding queue_ok frames_of
queue_facts bounds capacity q e =
    let s = q.slots in
    let h = q.head in
    let n = q.count in
    let p : h < 128 = e.1.0 in
    let m : n ≤ 128 = e.1.1.0 in
    let each : (j : ℕ) → j < 128 → Holds (slot_ok bounds (occupied h n ((h + j) % 128)) (get_or s ((h + j) % 128) 0)) =
    λ j l. from_each (slot_at bounds h n s) 0 128 e.1.1.1.0 ((h + j) % 128) (omega arith) (omega arith) in
    let rest : (j : ℕ) → n ≤ j → j < 128 → get_or s ((h + j) % 128) 0 ≡ 0 =
    λ j k l. slot_zero bounds (occupied h n ((h + j) % 128)) (get_or s ((h + j) % 128) 0) (occupied_no h n j p l k) (each j l) in
    record {
      slots = e.0;
      head = p;
      count = m;
      frames = all_in bounds s h n (λ j k. let l : j < 128 = omega arith in slot_frame bounds (occupied h n ((h + j) % 128)) (get_or s ((h + j) % 128) 0) (occupied_yes h n j p l k) (each j l));
      rest = rest;
      held = e.1.1.1.1.0 ∙ held_sum s h n m rest;
      most = e.1.1.1.1.1;
    }

pub queue_holds : (bounds : Bounds) (capacity : ℕ) (q : Queue) → QueueOk bounds capacity q → Holds (queue_ok bounds capacity q)
unfolding queue_ok frames_of
queue_holds bounds capacity q r =
    (r.slots, (r.head, (r.count, (to_each (slot_at bounds h n s) 0 128 each, (r.held ∙ sym (held_sum s h n r.count r.rest), r.most)))))
  where
    s : List ℕ
    s = q.slots

    h : ℕ
    h = q.head

    n : ℕ
    n = q.count

    at_turn : (j : ℕ) → j < 128 → Holds (slot_at bounds h n s ((h + j) % 128))
    at_turn j l =
        ⊎_elim
        (λ (k : j < n). frame_slot bounds _ _ (occupied_yes h n j r.head l k) (in_all bounds s h n r.frames j k))
        (λ k. let z : n ≤ j = omega arith in zero_slot bounds _ _ (occupied_no h n j r.head l z) (r.rest j z l))
        (split (j <? n))

    each : (i : ℕ) → 0 ≤ i → i < 0 + 128 → Holds (slot_at bounds h n s i)
    each i a b =
        let e : (h + (128 - h + i) % 128) % 128 ≡ i = omega (arith, r.head) in
        subst (λ (m : ℕ). Holds (slot_at bounds h n s m)) e (at_turn ((128 - h + i) % 128) (omega arith))

-- ---- the short way for a queue that holds no frame

empty_at : (s : List ℕ) → Holds (empty_ok s 0 128) → (j : ℕ) → j < 128 → get_or s j 0 ≡ 0
empty_at s e j l = from_each (λ (i : ℕ). get_or s i 0 ≡? 0) 0 128 e j (omega arith) (omega arith)

-- where no slot is occupied each is empty, whichever is the first and whatever frames are held to
module _ (bounds : Bounds) (h : ℕ) (s : List ℕ) where
  none_held_lem : Holds (empty_ok s 0 128) → Holds (slots_ok bounds h 0 s 0 128)
  none_held_lem e = to_each (slot_at bounds h 0 s) 0 128 (λ j p l. zero_slot bounds (occupied h 0 j) (get_or s j 0) (occupied_none h j) (empty_at s e j l))

  all_empty : Holds (slots_ok bounds h 0 s 0 128) → Holds (empty_ok s 0 128)
  all_empty e =
      to_each (λ (i : ℕ). get_or s i 0 ≡? 0) 0 128
      (λ j p l. slot_zero bounds (occupied h 0 j) (get_or s j 0) (occupied_none h j) (from_each (slot_at bounds h 0 s) 0 128 e j p l))

pub vacant : (bounds : Bounds) (capacity : ℕ) (q : Queue) → length q.slots ≡ 128 → q.count ≡ 0
    → test (q.head <? 128 ∧? empty_ok q.slots 0 128 ∧? q.held ≡? 0) ≡ test (queue_ok bounds capacity q)
unfolding queue_ok
vacant bounds capacity q len z =
    same_test (q.head <? 128 ∧? empty_ok q.slots 0 128 ∧? q.held ≡? 0) (queue_ok bounds capacity q)
    (λ h. let k : q.held ≡ 0 = h.1.1 in (len, (h.0, (omega arith, (rw z (none_held_lem bounds q.head q.slots h.1.0), (k ∙ sym (no_bytes h.1.0), omega arith))))))
    (λ h. let e = all_empty bounds q.head q.slots (rw z at h.1.1.1.0) in (h.1.0, (e, h.1.1.1.1.0 ∙ no_bytes e)))
  where
    no_bytes : Holds (empty_ok q.slots 0 128) → bytes_in q.slots ≡ 0
    no_bytes e = zero_sizes q.slots 0 128 (λ j l. empty_at q.slots e ((0 + j) % 128) (omega arith))

-- ---- the loop over the slots: one turn more, and its end

module _ (s : List ℕ) (i : ℕ) (p : i < 128) where
  step : 128 - i ≡ suc (128 - (i + 1))
  step = omega arith

  pub bytes_more : sizes (frames_from s i (128 - i)) ≡ get_or s i 0 % 16384 + sizes (frames_from s (i + 1) (128 - (i + 1)))
  unfolding sizes
  bytes_more = ap sizes (from_more s i 128 p p)

  pub each_more : (at : ℕ → Test) (good whole : Bool) → (good && test (each_from at i (128 - i))) ≡ whole
      → ((good && test (at i)) && test (each_from at (i + 1) (128 - (i + 1)))) ≡ whole
  unfolding each_from test
  each_more at good whole w =
      and_assoc good (test (at i)) (test (each_from at (i + 1) (128 - (i + 1))))
      ∙ ap (λ (k : ℕ). good && (test (at i) && test (each_from at k (128 - (i + 1))))) (add-one i)
      ∙ ap (λ (k : ℕ). good && test (each_from at i k)) (sym step)
      ∙ w

module _ (s : List ℕ) (i : ℕ) (p : 128 ≤ i) where
  none : 128 - i ≡ 0
  none = omega arith

  pub bytes_done : sizes (frames_from s i (128 - i)) ≡ 0
  unfolding sizes
  bytes_done = ap sizes (from_done s i 128 p)

  pub each_done : (at : ℕ → Test) (good whole : Bool) → (good && test (each_from at i (128 - i))) ≡ whole → good ≡ whole
  unfolding each_from test
  each_done at good whole w = sym (ap (λ (k : ℕ). good && test (each_from at i k)) none ∙ and-true good) ∙ w
