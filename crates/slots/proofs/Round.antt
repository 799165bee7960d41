-- A queue and its 518 bytes say the same: it is read back where its bytes stand, and stands where it was read.
-- Assumes nothing.
use Prim.Native.Nat.{ℕ, zero, suc, ◌+◌, ◌*◌, ◌-◌, ◌%◌, ◌^◌, ◌≤◌, ◌<◌}
use mathlib.Core.List.{List, [], ◌∷◌, ◌++◌, append-nil}
use mathlib.Core.Logic.{⊎_elim}
use mathlib.Core.Path.{◌≡◌, refl, sym, ap, subst, ◌∙◌}
use native.Mathlib.Nat.{add-zero}
use native.Mathlib.Omega.{arith}
use lib.ListN.{length, get_or}
use Rattle.decide.specs.Test.{split, ◌<?◌}
use Rattle.wire.specs.Wire.{le, digits, Bytes}
use Rattle.wire.specs.Parts.{Part, number, bytes_part, laid_out}
use Rattle.wire.proofs.Puts.{put_whole}
use Rattle.wire.proofs.Places.{Stands, stands_whole, put_stands, bytes_append}
use Rattle.wire.proofs.Numbers.{digits_stand, digits_bytes, le_bound}
use Rattle.wire.proofs.Laid.{le_part, part_stands}
use Rattle.wire.proofs.Placed.{placed_stand, laid_out_bytes}
use Rattle.queue.specs.declared.Bounds.{Bounds}
use Rattle.queue.specs.declared.Queue.{Queue}
use Rattle.queue.specs.Queue.{frames_of}
use Rattle.queue.specs.Range.{QueueOk}
use Rattle.queue.proofs.Ring.{in_all}
use Rattle.slots.specs.Slots.{queue_length, queue_bytes, queue_parts, queue_length_lem, queue_at, WordsFit, QueueFits}
use Rattle.wire.specs.Words.{words_bytes, words_length, words_at}

-- a word, and those behind it
abbrev pair : ℕ → List ℕ → List Part
pair w ws = number 4 w ∷ bytes_part (words_bytes ws) ∷ []

pair_bytes : (w : ℕ) (ws : List ℕ) → laid_out (pair w ws) ≡ words_bytes (w ∷ ws)
unfolding words_bytes
pair_bytes w ws = ap (λ (l : List ℕ). digits 4 w ++ l) (append-nil (words_bytes ws))

-- ---- read where it stands

-- words are read where they stand
pub words_back : (xs ws : List ℕ) (at : ℕ) → WordsFit ws → Stands xs at (words_bytes ws) → words_at (length ws) xs at ≡ ws
unfolding words_at
words_back xs [] at f s = refl
words_back xs (w ∷ ws) at f s =
    let p : Stands xs at (laid_out (pair w ws)) = subst (Stands xs at) (sym (pair_bytes w ws)) s in
    let first : le 4 xs at ≡ w = rw add-zero at (le_part (pair w ws) 0 4 w xs at refl f.0 p) in
    rw (first, words_back xs ws (at + 4) f.1 (part_stands (pair w ws) 1 xs at p))

-- a queue is read where its bytes stand
pub queue_back : (xs : List ℕ) (at : ℕ) (q : Queue) → QueueFits q → Stands xs at (queue_bytes q) → queue_at xs at ≡ q
unfolding queue_bytes queue_at
queue_back xs at q f s =
    let ps : List Part = queue_parts q f.many in
    let slots : words_at 128 xs at ≡ q.slots =
    rw (← f.many) (words_back xs q.slots at f.slots (rw add-zero at (part_stands ps 0 xs at s))) in
    rw (slots, le_part ps 1 4 q.held xs at refl f.held s, le_part ps 2 1 q.head xs at refl f.head s, le_part ps 3 1 q.count xs at refl f.count s)

-- ---- standing where it is read

at_length : (n : ℕ) (xs : List ℕ) (at : ℕ) → length (words_at n xs at) ≡ n
unfolding words_at
at_length zero xs at = refl
at_length (suc n) xs at = ap suc (at_length n xs (at + 4))

-- a queue that is read has 128 slots
pub slots_length : (xs : List ℕ) (at : ℕ) → length (queue_at xs at).slots ≡ 128
unfolding queue_at
slots_length xs at = at_length 128 xs at

module _ (xs : List ℕ) (b : Bytes xs) where
  -- the bytes of the words that are read at a place stand there
  pub words_stand : (n at : ℕ) → at + 4 * n ≤ length xs → Stands xs at (words_bytes (words_at n xs at))
  unfolding words_bytes words_at
  words_stand zero at h = λ i l. omega arith
  words_stand (suc n) at h =
      subst (Stands xs at) (pair_bytes (le 4 xs at) (words_at n xs (at + 4)))
      (placed_stand (pair (le 4 xs at) (words_at n xs (at + 4))) xs at (omega (arith, words_length (words_at n xs (at + 4)), at_length n xs (at + 4)))
      (digits_stand 4 xs at b, (words_stand n (at + 4) (omega arith), tt)))

  -- the bytes of the queue that is read at a place stand there
  pub queue_stand : (at : ℕ) → at + queue_length ≤ length xs → Stands xs at (queue_bytes (queue_at xs at))
  unfolding queue_bytes queue_at
  queue_stand at h =
      placed_stand (queue_parts (queue_at xs at) (slots_length xs at)) xs at h
      (words_stand 128 at (omega arith), (digits_stand 4 xs (at + 512) b, (digits_stand 1 xs (at + 516) b, (digits_stand 1 xs (at + 517) b, tt))))

-- ---- what is written are bytes

pub words_bytes_lem : (ws : List ℕ) → Bytes (words_bytes ws)
unfolding words_bytes
words_bytes_lem [] = λ j. omega arith
words_bytes_lem (w ∷ ws) = bytes_append (digits 4 w) (words_bytes ws) (digits_bytes 4 w) (words_bytes_lem ws)

pub queue_bytes_lem : (q : Queue) → Bytes (queue_bytes q)
unfolding queue_bytes
queue_bytes_lem q =
    let ps : List Part = number 4 q.held ∷ number 1 q.head ∷ number 1 q.count ∷ [] in
    bytes_append (words_bytes q.slots) (laid_out ps) (words_bytes_lem q.slots)
    (laid_out_bytes ps (digits_bytes 4 q.held, (digits_bytes 1 q.head, (digits_bytes 1 q.count, tt))))

-- ---- what fits

-- what is read from bytes fits: words,
pub words_fit : (n : ℕ) (xs : List ℕ) (at : ℕ) → Bytes xs → WordsFit (words_at n xs at)
unfolding words_at
words_fit zero xs at b = tt
words_fit (suc n) xs at b = (le_bound 4 xs at b, words_fit n xs (at + 4) b)

-- and a queue;
pub queue_fits : (xs : List ℕ) (at : ℕ) → Bytes xs → QueueFits (queue_at xs at)
unfolding queue_at
queue_fits xs at b =
    record {
      many = slots_length xs at;
      slots = words_fit 128 xs at b;
      head = le_bound 1 xs (at + 516) b;
      count = le_bound 1 xs (at + 517) b;
      held = le_bound 4 xs (at + 512) b;
    }

each_fits : (ws : List ℕ) → ((j : ℕ) → j < length ws → get_or ws j 0 < 256 ^ 4) → WordsFit ws
each_fits [] h = tt
each_fits (w ∷ ws) h = (h 0 (omega arith), each_fits ws (λ j l. h (suc j) (omega arith)))

-- and so does a queue in range: the word of a frame has 23 bits, and that of an empty slot is 0
pub queue_in_range_fits : {bounds : Bounds} {capacity : ℕ} {q : Queue} → capacity ≤ 1048576 → QueueOk bounds capacity q → QueueFits q
unfolding frames_of
queue_in_range_fits {bounds} {capacity} {q} m ok =
    record {
      many = ok.slots;
      slots = each_fits q.slots each;
      head = omega (arith, ok.head);
      count = omega (arith, ok.count);
      held = omega (arith, ok.most);
    }
  where
    turn : (k : ℕ) → k < 128 → get_or q.slots ((q.head + k) % 128) 0 < 256 ^ 4
    turn k l =
        ⊎_elim
        (λ (h : k < q.count). omega (arith, (in_all bounds q.slots q.head q.count ok.frames k h).frame.mark))
        (λ h. omega (arith, ok.rest k (omega arith) l))
        (split (k <? q.count))

    each : (j : ℕ) → j < length q.slots → get_or q.slots j 0 < 256 ^ 4
    each j l =
        let e : (q.head + (128 - q.head + j) % 128) % 128 ≡ j = omega (arith, ok.head, ok.slots) in
        subst (λ (i : ℕ). get_or q.slots i 0 < 256 ^ 4) e (turn ((128 - q.head + j) % 128) (omega arith))

-- ---- both round trips

-- a queue, written and read, is the queue
pub queue_of_bytes : (q : Queue) → QueueFits q → queue_at (queue_bytes q) 0 ≡ q
queue_of_bytes q f = queue_back (queue_bytes q) 0 q f (stands_whole (queue_bytes q))

-- 518 bytes, read and written, are the bytes
pub bytes_of_queue : (xs : List ℕ) → Bytes xs → length xs ≡ queue_length → queue_bytes (queue_at xs 0) ≡ xs
bytes_of_queue xs b e =
    let n : length (queue_bytes (queue_at xs 0)) ≡ queue_length = queue_length_lem (queue_at xs 0) (slots_length xs 0) in
    sym (put_whole xs (queue_bytes (queue_at xs 0)) (omega arith))
    ∙ put_stands xs (queue_bytes (queue_at xs 0)) 0 (omega arith) (queue_stand xs b 0 (omega arith))
