-- The pieces of a cut record as a host treats them: rpr_summarize of each, and rpr_join of their summaries along any tree, each call with a room of its own.
-- Assumes nothing.
use Rattle.std.specs.Prelude.{ℕ, List, ◌≡◌, length}
use Rattle.shaper.specs.declared.Limits.{Limits}
use Rattle.shaper.specs.declared.Event.{Event}
use Rattle.account.specs.Pieces as account
use Rattle.account.specs.Pieces.{Tree, Cuts}
use Rattle.sheet.specs.Sheet.{sheet_length}
use Rattle.rpr.specs.Calls.{summarize_answer, summarize_after, join_answer, join_after}

-- a grouping of pieces in their order: a piece's bytes and the room that its summary is written to, or two groups and the room of their joined summary
pub data Rooms : Type 0 where
  piece : (bytes room : List ℕ) → Rooms
  both : (first second : Rooms) (room : List ℕ) → Rooms

-- what the last call leaves in its room
abbrev pub room_of : Rooms → List ℕ
room_of (piece bytes room) = summarize_after bytes room
room_of (both t u room) = join_after (room_of t) (room_of u) room

-- every call on the way is carried out
abbrev pub AllCarried : Rooms → Type 0
AllCarried (piece bytes room) = summarize_answer bytes room ≡ 0
AllCarried (both t u room) = AllCarried t × AllCarried u × (join_answer (room_of t) (room_of u) room ≡ 0)

-- each room has a summary's length
abbrev pub WholeRooms : Rooms → Type 0
WholeRooms (piece bytes room) = length room ≡ sheet_length
WholeRooms (both t u room) = WholeRooms t × WholeRooms u × (length room ≡ sheet_length)

-- the grouping without its rooms
abbrev pub tree_of : Rooms → Tree
tree_of (piece bytes room) = account.piece bytes
tree_of (both t u room) = account.both (tree_of t) (tree_of u)

-- The pieces, in order, are a cut of these events.
abbrev pub CutsRooms : Limits → List Event → Rooms → Type 0
CutsRooms l es t = Cuts l es (tree_of t) × WholeRooms t
