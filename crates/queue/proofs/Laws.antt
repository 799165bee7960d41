-- The laws of a queue as a list of frames: pushing appends, taking gives the first and leaves the rest, and both keep the range. They follow from the
-- ring's: a store changes the list only at the slot that is stored to. Assumes nothing.
use Prim.Native.Nat.{ℕ, suc, ◌+◌, ◌-◌, ◌%◌, ◌<◌, ◌≤◌, ◌^◌}
use mathlib.Core.Path.{◌≡◌, refl, ap, sym, ◌∙◌}
use mathlib.Core.List.{List, [], ◌∷◌, ◌++◌}
use mathlib.Core.Logic.{⊎_elim}
use mathlib.Core.Bool.{true, false}
use native.Mathlib.Numerals.{add-one}
use native.Mathlib.Omega.{arith}
use borrow.Author.Tests.{ltb-true, ltb-false, lt-ltb, le-ltb}
use lib.ListN.{length, get_or, set, length-set, get_or-replicate}
use lib.Seq.{get_or-set_same, get_or-set_other}
use Rattle.decide.specs.Test.{split, ◌≤?◌, ◌<?◌}
use Rattle.queue.specs.declared.Bounds.{Bounds}
use Rattle.queue.specs.declared.Frame.{Frame}
use Rattle.queue.specs.declared.Queue.{Queue}
use Rattle.queue.specs.Frame.{HeldOk, BoundsOk, word_of}
use Rattle.queue.specs.Queue.{frames_from, frames_of, sizes, empty_queue, pushed, first_frame, taken, space_of, holds_frame}
use Rattle.queue.specs.Range.{AllOk, QueueOk}
use Rattle.queue.proofs.Word.{word_frame, frame_fits}
use Rattle.queue.proofs.Ring.{from_mod, from_set, from_snoc, from_length, sizes_append}

all_snoc : (bounds : Bounds) (fs : List Frame) (f : Frame) → AllOk bounds fs → HeldOk bounds f → AllOk bounds (fs ++ (f ∷ []))
all_snoc bounds [] f a r = (r, tt)
all_snoc bounds (g ∷ fs) f a r = (a.0, all_snoc bounds fs f a.1 r)

-- less than a whole round leads to another slot
off : (h k : ℕ) → 0 < k → k < 128 → (h + k) % 128 ≡ h % 128 → ⊥
off h k a b e = omega arith

-- ---- space

-- with 128 frames held it is 0
pub space_full : (q : Queue) (capacity : ℕ) → 128 ≤ q.count → space_of q capacity ≡ 0
unfolding space_of
space_full q capacity p = rw (le-ltb q.count 128 p)

-- else it is capacity less bytes held
pub space_left : (q : Queue) (capacity : ℕ) → q.count < 128 → space_of q capacity ≡ capacity - q.held
unfolding space_of
space_left q capacity p = rw (lt-ltb q.count 128 p)

-- ---- the queue at its start

pub empty_frames : frames_of empty_queue ≡ []
unfolding frames_of frames_from empty_queue
empty_frames = refl

pub empty_ok_lem : (bounds : Bounds) (capacity : ℕ) → QueueOk bounds capacity empty_queue
unfolding frames_of frames_from sizes empty_queue
empty_ok_lem bounds capacity =
    record {
      slots = refl;
      head = omega arith;
      count = omega arith;
      frames = tt;
      rest = λ j n l. get_or-replicate 128 ((0 + j) % 128) 0 0 (omega arith);
      held = refl;
      most = omega arith;
    }

module _ {bounds : Bounds} {capacity : ℕ} {q : Queue} (ok : QueueOk bounds capacity q) where
  -- ---- what a queue in range holds

  -- bytes held are the sum of the sizes
  pub held_sums : q.held ≡ sizes (frames_of q)
  held_sums = ok.held

  pub count_frames : q.count ≡ length (frames_of q)
  unfolding frames_of
  count_frames = sym (from_length q.slots q.head q.count)

  pub holds_none : holds_frame q ≡ false → frames_of q ≡ []
  unfolding frames_of frames_from
  holds_none e = let z : q.count ≡ 0 = omega (arith, ltb-false 0 q.count e) in rw z

  -- ---- space

  -- a size of at most the space fits
  pub space_fits : (size : ℕ) → 0 < size → size ≤ space_of q capacity → (q.count < 128) × (q.held + size ≤ capacity)
  space_fits size z p =
      ⊎_elim
      (λ (l : q.count < 128). (l, omega (arith, space_left q capacity l)))
      (λ l. absurd (omega (arith, space_full q capacity (omega arith))))
      (split (q.count <? 128))

  -- and no other does
  pub fits_space : (size : ℕ) → q.count < 128 → q.held + size ≤ capacity → size ≤ space_of q capacity
  fits_space size l p = omega (arith, space_left q capacity l)

  -- where a whole frame does not fit there is one in the queue
  pub tight_holds : bounds.mtu ≤ capacity → space_of q capacity < bounds.mtu → holds_frame q ≡ true
  unfolding frames_of frames_from sizes
  tight_holds m p =
      ⊎_elim
      (λ (l : 1 ≤ q.count). lt-ltb 0 q.count l)
      (λ l.
      let z : q.count ≡ 0 = omega arith in
      let h : q.held ≡ 0 = ok.held ∙ rw z in
      absurd (omega (arith, space_left q capacity (omega arith))))
      (split (1 ≤? q.count))

  -- ---- taking

  module _ (holds : holds_frame q ≡ true) where
    some : 0 < q.count
    some = ltb-true 0 q.count holds

    -- first in, first out: the frame taken is the list's first, and the rest is left
    pub take_first : frames_of q ≡ first_frame q ∷ frames_of (taken q)
    unfolding frames_of frames_from first_frame taken
    take_first =
        let p = some in
        let e : q.count ≡ suc (q.count - 1) = omega arith in
        ap (frames_from q.slots q.head) e
        ∙ rw (from_set q.slots (q.head % 128) 0 ((q.head + 1) % 128) (q.count - 1) (λ j l e. omega (arith, ok.count)), from_mod q.slots (suc q.head) ((q.head + 1) % 128) (q.count - 1) (omega arith))

    pub first_ok : HeldOk bounds (first_frame q)
    first_ok = (rw take_first at ok.frames).0

    -- the bytes held are the first frame's and the others'
    pub take_bytes : q.held ≡ (first_frame q).size + sizes (frames_of (taken q))
    unfolding sizes
    take_bytes = ok.held ∙ ap sizes take_first

    take_rest : (j : ℕ) → q.count - 1 ≤ j → j < 128 → get_or (set q.slots (q.head % 128) 0) (((q.head + 1) % 128 + j) % 128) 0 ≡ 0
    take_rest j n l =
        let p = some in
        let h = ok.head in
        ⊎_elim
        (λ (x : 127 ≤ j).
        let e : ((q.head + 1) % 128 + j) % 128 ≡ q.head % 128 = omega arith in
        ap (λ (i : ℕ). get_or (set q.slots (q.head % 128) 0) i 0) e ∙ get_or-set_same q.slots (q.head % 128) 0 0 (omega (arith, ok.slots)))
        (λ y.
        let e : ((q.head + 1) % 128 + j) % 128 ≡ (q.head + (j + 1)) % 128 = omega arith in
        ap (λ (i : ℕ). get_or (set q.slots (q.head % 128) 0) i 0) e
        ∙ get_or-set_other q.slots (q.head % 128) ((q.head + (j + 1)) % 128) 0 0 (off q.head (j + 1) (omega arith) (omega arith))
        ∙ ok.rest (j + 1) (omega arith) (omega arith))
        (split (127 ≤? j))

    pub take_ok : QueueOk bounds capacity (taken q)
    unfolding taken
    take_ok =
        record {
          slots = length-set q.slots (q.head % 128) 0 ∙ ok.slots;
          head = omega arith;
          count = omega (arith, ok.count);
          frames = (rw take_first at ok.frames).1;
          rest = take_rest;
          held = omega (arith, take_bytes);
          most = omega (arith, ok.most);
        }

    -- freed room is used again: what is no larger than the frame taken fits
    pub freed_again : (size : ℕ) → size ≤ (first_frame q).size → size ≤ space_of (taken q) capacity
    unfolding taken
    freed_again size p =
        let n = some in
        omega (arith, space_left (taken q) capacity (omega (arith, ok.count)), take_bytes, ok.most)

  -- ---- pushing

  module _ (f : Frame) (large : BoundsOk bounds) (good : HeldOk bounds f) (fits : f.size ≤ space_of q capacity) where
    room : (q.count < 128) × (q.held + f.size ≤ capacity)
    room = space_fits f.size (omega (arith, good.frame.least)) fits

    -- the frame pushed is the list's last
    pub push_appends : frames_of (pushed q f) ≡ frames_of q ++ (f ∷ [])
    unfolding frames_of pushed
    push_appends =
        let p = room.0 in
        let at = (q.head + q.count) % 128 in
        ap (frames_from (set q.slots at (word_of f)) q.head) (add-one q.count)
        ∙ from_snoc (set q.slots at (word_of f)) q.head q.count
        ∙ rw (get_or-set_same q.slots at (word_of f) 0 (omega (arith, ok.slots)), from_set q.slots at (word_of f) q.head q.count (λ j l e. omega arith), word_frame f (frame_fits large good.frame))

    pub push_ok : QueueOk bounds capacity (pushed q f)
    unfolding pushed sizes
    push_ok =
        let p = room.0 in
        let h = ok.head in
        record {
          slots = length-set q.slots ((q.head + q.count) % 128) (word_of f) ∙ ok.slots;
          head = h;
          count = omega arith;
          frames = rw push_appends (all_snoc bounds (frames_of q) f ok.frames good);
          rest = λ j n l. get_or-set_other q.slots ((q.head + q.count) % 128) ((q.head + j) % 128) (word_of f) 0 (λ x. omega arith) ∙ ok.rest j (omega arith) l;
          held = omega (arith, ap sizes push_appends, sizes_append (frames_of q) (f ∷ []), ok.held);
          most = room.1;
        }

    -- what `push` requires
    pub push_needs : capacity ≤ 1048576 → (q.count < 128) × (q.held + f.size < 2 ^ 32)
    push_needs c = (room.0, omega (arith, room.1))
