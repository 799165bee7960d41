-- When a queue is in range: as a test, and as facts with names.
-- Assumes nothing.
use Rattle.std.specs.Prelude.{ℕ, zero, suc, ◌+◌, ◌-◌, ◌%◌, ◌≤◌, ◌<◌, min, ◌≡◌, List, [], ◌∷◌, Bool, cond, length, get_or, ltb}
use Rattle.decide.specs.Test.{Test, ◌≤?◌, ◌<?◌, ◌≡?◌, ◌∧?◌}
use Rattle.queue.specs.declared.Bounds.{Bounds}
use Rattle.queue.specs.declared.Frame.{Frame}
use Rattle.queue.specs.declared.Queue.{Queue}
use Rattle.queue.specs.Frame.{frame_of, held_ok, HeldOk}
use Rattle.queue.specs.Queue.{frames_from, frames_of, sizes}

-- ---- as facts

-- every frame of the list may be held
abbrev pub AllOk : Bounds → List Frame → Type 0
AllOk b [] = Unit {0}
AllOk b (f ∷ fs) = HeldOk b f × AllOk b fs

-- A lent station is in range if its .. frames, slots and bytes held (the sizes' sum, at most the capacity) are. A slot outside head .. head + count is
-- empty, which is 0.
pub record QueueOk (b : Bounds) (capacity : ℕ) (q : Queue) : Type 0 where
  pub slots : length q.slots ≡ 128
  pub head : q.head < 128
  pub count : q.count ≤ 128
  pub frames : AllOk b (frames_of q)
  pub rest : (j : ℕ) → q.count ≤ j → j < 128 → get_or q.slots ((q.head + j) % 128) 0 ≡ 0
  pub held : q.held ≡ sizes (frames_of q)
  pub most : q.held ≤ capacity

-- ---- as a test

-- slot i is one of the n from slot h on, round the ring
unfoldable pub occupied : ℕ → ℕ → ℕ → Bool
occupied h n i = ltb ((128 - h + i) % 128) n

-- an occupied slot holds a frame that may be held, another 0
unfoldable pub slot_ok : Bounds → Bool → ℕ → Test
slot_ok b o w = cond o (held_ok b (frame_of w)) (w ≡? 0)

-- a test at each of the k numbers from i on
unfoldable pub each_from : (ℕ → Test) → ℕ → ℕ → Test
each_from at i zero = 0 ≤? 0
each_from at i (suc k) = at i ∧? each_from at (suc i) k

-- the k slots from slot i on are so
abbrev pub slots_ok : Bounds → ℕ → ℕ → List ℕ → ℕ → ℕ → Test
slots_ok b h n s i k = each_from (λ j. slot_ok b (occupied h n j) (get_or s j 0)) i k

-- they are empty
abbrev pub empty_ok : List ℕ → ℕ → ℕ → Test
empty_ok s i k = each_from (λ j. get_or s j 0 ≡? 0) i k

-- the bytes in all 128 slots, of which an empty one has none
abbrev pub bytes_in : List ℕ → ℕ
bytes_in s = sizes (frames_from s 0 128)

unfoldable pub queue_ok : Bounds → ℕ → Queue → Test
queue_ok b capacity q =
    length q.slots ≡? 128
    ∧? q.head <? 128
    ∧? q.count ≤? 128
    ∧? slots_ok b q.head q.count q.slots 0 128
    ∧? q.held ≡? bytes_in q.slots
    ∧? q.held ≤? capacity

-- ---- what the test over a queue's bytes counts instead

-- every frame of the list may be held
unfoldable pub frames_ok : Bounds → List Frame → Test
frames_ok b [] = 0 ≤? 0
frames_ok b (f ∷ fs) = held_ok b f ∧? frames_ok b fs

-- the sum of a weight over the words of n slots, from slot h on, round the ring of 128
unfoldable pub weighed : (ℕ → ℕ) → List ℕ → ℕ → ℕ → ℕ
weighed weight s h zero = 0
weighed weight s h (suc n) = weight (get_or s (h % 128) 0) + weighed weight s (suc h) n

-- 1 for a word that is not 0, else 0
abbrev pub used_of : ℕ → ℕ
used_of w = min w 1

-- How many of the 128 words are not 0. The word of a frame in range is not, so where they are as many as the frames held, every other slot is empty.
abbrev pub used_in : List ℕ → ℕ
used_in s = weighed used_of s 0 128
