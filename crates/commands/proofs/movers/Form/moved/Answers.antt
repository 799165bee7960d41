-- What is written fits the room, which stays as long as it was.
-- Assumes nothing.
use Rattle.std.proofs.Common.{ℕ, ◌≤◌, ◌≡◌, List, length}
use mathlib.Core.Path.{sym, ◌∙◌}
use native.Mathlib.Omega.{arith}
use Rattle.std.specs.Prelude.{Ok, Err, IfOk}
use Rattle.roll.specs.Moved.{Moved, Output, moved_of, left_of}
use Rattle.roll.proofs.Rooms.{wrote, left_as_long}
use Rattle.commands.proofs.movers.Form.moved.Goals as goal

fits : (o : Output) (room left : List ℕ) (r : Moved) → r ≡ moved_of o room → left ≡ left_of o room → IfOk r (λ n. n ≤ length left)
fits o room left (Ok n) told after = rw after (omega (arith, (wrote room o n (sym told)).fits, left_as_long room o))
fits o room left (Err why) told after = tt

pub returns-in-Rolled : goal.returns-in-Rolled
returns-in-Rolled c = fits _ _ _ _ c.roll.ensures.value c.roll.ensures.room_after

pub returns-in-Unrolled : goal.returns-in-Unrolled
returns-in-Unrolled c = fits _ _ _ _ c.unroll.ensures.value c.unroll.ensures.room_after
