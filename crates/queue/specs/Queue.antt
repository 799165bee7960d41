-- A queue, the list of frames that it stands for, and what its calls make of it.
-- Assumes nothing.
use Rattle.std.specs.Prelude.{ℕ, zero, suc, ◌+◌, ◌-◌, ◌%◌, List, [], ◌∷◌, Bool, cond, get_or, set, replicate, ltb}
use Rattle.queue.specs.declared.Frame.{Frame}
use Rattle.queue.specs.declared.Queue.{Queue}
use Rattle.queue.specs.declared.Taken.{Taken}
use Rattle.queue.specs.Frame.{word_of, frame_of}

-- ---- its meaning

-- the frames of n slots, from slot h on, round the ring of 128
unfoldable pub frames_from : List ℕ → ℕ → ℕ → List Frame
frames_from s h zero = []
frames_from s h (suc n) = frame_of (get_or s (h % 128) 0) ∷ frames_from s (suc h) n

-- The frames that a queue holds, first in first.
unfoldable pub frames_of : Queue → List Frame
frames_of q = frames_from q.slots q.head q.count

-- the bytes of frames: the sum of their sizes
unfoldable pub sizes : List Frame → ℕ
sizes [] = 0
sizes (f ∷ fs) = f.size + sizes fs

-- ---- its calls

-- Each queue has 128 slots, all empty at the start.
unfoldable pub empty_queue : Queue
empty_queue = record { slots = replicate 128 0; head = 0; count = 0; held = 0 }

-- a frame goes into the slot behind the last
unfoldable pub pushed : Queue → Frame → Queue
pushed q f =
    record {
      slots = set q.slots ((q.head + q.count) % 128) (word_of f);
      head = q.head;
      count = q.count + 1;
      held = q.held + f.size;
    }

-- the frame in the first slot
unfoldable pub first_frame : Queue → Frame
first_frame q = frame_of (get_or q.slots (q.head % 128) 0)

-- The frame leaves its queue: its slot is empty again, and the next one is the first.
unfoldable pub taken : Queue → Queue
taken q =
    record {
      slots = set q.slots (q.head % 128) 0;
      head = (q.head + 1) % 128;
      count = q.count - 1;
      held = q.held - (first_frame q).size;
    }

abbrev pub take_of : Queue → Taken
take_of q = record { frame = first_frame q; queue = taken q }

-- Space is capacity less bytes held, or 0 with 128 frames held.
unfoldable pub space_of : Queue → ℕ → ℕ
space_of q capacity = cond (ltb q.count 128) (capacity - q.held) 0

-- the queue holds a frame
abbrev pub holds_frame : Queue → Bool
holds_frame q = ltb 0 q.count
