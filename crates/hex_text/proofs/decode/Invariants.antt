-- Each step leaves the whole as it was, and fills the room by at most one byte for each character.
-- Assumes nothing.
use Prim.Native.Nat.{◌+◌, ◌-◌, ◌≤◌}
use mathlib.Core.Path.{◌≡◌}
use lib.ListN.{length}
use Rattle.feed.specs.declared.Feed.{Feed}
use Rattle.hex_text.specs.Decoded.{onwards}
use Rattle.hex_text.proofs.decode.Given as goal

abbrev pub invariant-loop-at : goal.invariant-loop-at
invariant-loop-at l =
    ((f : Feed) → onwards l.chunk l.room l.at f ≡ onwards l.chunk l.initial.room l.initial.at f)
    × ((l.at.next ≤ length l.chunk) × ((l.at.count + l.initial.at.next ≤ l.at.next) × ((l.at.count ≤ length l.room) × (length l.room ≡ length l.initial.room))))

abbrev pub decreases-loop-at : goal.decreases-loop-at
decreases-loop-at l = length l.chunk - l.at.next
