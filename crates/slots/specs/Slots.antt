-- A queue as 518 bytes: its 128 slots, a word of 4 bytes each; the bytes held, 4; the head, 1; the count, 1. Each number has its least byte first.
-- Assumes nothing.
use Rattle.std.specs.Prelude.{ℕ, ◌+◌, ◌^◌, ◌<◌, List, [], ◌∷◌, ◌++◌, ◌≡◌, length, set}
use Rattle.std.proofs.Common.{arith}
use Rattle.wire.specs.Wire.{le}
use Rattle.wire.specs.Words.{words_bytes, words_length, words_at}
use Rattle.wire.specs.Parts.{Part, number, laid_out, length_laid_out}
use Rattle.decide.specs.Test.{test}
use Rattle.queue.specs.declared.Bounds.{Bounds}
use Rattle.queue.specs.declared.Frame.{Frame}
use Rattle.queue.specs.declared.Queue.{Queue}
use Rattle.queue.specs.Queue.{sizes}
use Rattle.queue.specs.Range.{frames_ok}
use Rattle.slots.specs.declared.Found.{Found}

-- how many bytes a queue takes
abbrev pub queue_length : ℕ
queue_length = 518

-- ---- what is written: slots, bytes held, head and count, one after another

unfoldable pub queue_bytes : Queue → List ℕ
queue_bytes q = words_bytes q.slots ++ laid_out (number 4 q.held ∷ number 1 q.head ∷ number 1 q.count ∷ [])

-- the slots, where they are 128, as one part
abbrev pub slots_part : (ws : List ℕ) → length ws ≡ 128 → Part
slots_part ws e = record { size = 512; bytes = words_bytes ws; sized = omega (arith, words_length ws) }

abbrev pub queue_parts : (q : Queue) → length q.slots ≡ 128 → List Part
queue_parts q e = slots_part q.slots e ∷ number 4 q.held ∷ number 1 q.head ∷ number 1 q.count ∷ []

pub queue_length_lem : (q : Queue) → length q.slots ≡ 128 → length (queue_bytes q) ≡ queue_length
unfolding queue_bytes
queue_length_lem q e = length_laid_out (queue_parts q e)

-- a queue of 128 slots as one part of a longer layout
abbrev pub queue_part : (q : Queue) → length q.slots ≡ 128 → Part
queue_part q e = record { size = queue_length; bytes = queue_bytes q; sized = queue_length_lem q e }

-- ---- what is read: each number at its place

unfoldable pub queue_at : List ℕ → ℕ → Queue
queue_at xs at =
    record { slots = words_at 128 xs at; head = le 1 xs (at + 516); count = le 1 xs (at + 517); held = le 4 xs (at + 512) }

-- a queue with one slot anew, and the numbers behind the slots
abbrev pub slot_anew : Queue → ℕ → ℕ → ℕ → ℕ → ℕ → Queue
slot_anew q i word held head count = record { slots = set q.slots i word; head = head; count = count; held = held }

-- ---- what the range test finds

-- what frames come to: whether each may be held, and their bytes
abbrev pub found_of : Bounds → List Frame → Found
found_of b fs = record { good = test (frames_ok b fs); bytes = sizes fs }

-- ---- when nothing is lost: 128 slots, and each number fits its bytes

-- every word fits 4 bytes
abbrev pub WordsFit : List ℕ → Type 0
WordsFit [] = Unit {0}
WordsFit (w ∷ ws) = (w < 256 ^ 4) × WordsFit ws

pub record QueueFits (q : Queue) : Type 0 where
  pub many : length q.slots ≡ 128
  pub slots : WordsFit q.slots
  pub head : q.head < 256
  pub count : q.count < 256
  pub held : q.held < 256 ^ 4
