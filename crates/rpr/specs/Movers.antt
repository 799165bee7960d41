-- What the two movers answer, and what they leave in the room.
-- Assumes nothing.
use Rattle.std.specs.Prelude.{ℕ, List, [], ◌∷◌, ltb, length}
use Rattle.decide.specs.Refusal.{Fault, fault}
use Rattle.wire.specs.Wire.{put}
use Rattle.roll.specs.Moved.{Output, refused, bytes, rolled_bytes, unrolled_bytes}
use Rattle.roll.specs.Steps.{output_of}
use Rattle.answer.specs.Bytes.{packed, written_bytes}
use Rattle.rpr.specs.Shape.{answer_of, after_of}
use Rattle.rpr.specs.Calls.{record_fault}

-- the number of the record's earliest fault, or 0
abbrev pub output_number : Output → ℕ
output_number (refused n) = n
output_number (bytes ys) = 0

-- The record's earliest fault; then 12, last: the room is too short.
abbrev pub mover_rows : Output → List ℕ → List Fault
mover_rows o room = record_fault (output_number o) ∷ fault 12 (ltb (length room) (length (output_of o))) ∷ []

-- Bytes 4 to 7: bytes written.
abbrev pub mover_answer : Output → List ℕ → ℕ
mover_answer o room = answer_of (mover_rows o room) (packed (written_bytes (length (output_of o))))

-- Bytes of the room behind them stay.
abbrev pub mover_after : Output → List ℕ → List ℕ
mover_after o room = after_of (mover_rows o room) room (put room 0 (output_of o))

-- ---- rpr_roll: old form to new

unfoldable pub roll_answer : List ℕ → List ℕ → ℕ
roll_answer xs room = mover_answer (rolled_bytes xs) room

unfoldable pub roll_after : List ℕ → List ℕ → List ℕ
roll_after xs room = mover_after (rolled_bytes xs) room

-- ---- rpr_unroll: either form to old

unfoldable pub unroll_answer : List ℕ → List ℕ → ℕ
unroll_answer xs room = mover_answer (unrolled_bytes xs) room

unfoldable pub unroll_after : List ℕ → List ℕ → List ℕ
unroll_after xs room = mover_after (unrolled_bytes xs) room
