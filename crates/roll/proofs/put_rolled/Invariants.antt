-- What is put from there on leaves what the whole leaves: the header first, then each turn an item.
-- Assumes nothing.
use Prim.Native.Nat.{◌-◌, ◌≤◌}
use lib.ListN.{length}
use Rattle.roll.proofs.Moving.{Laid}
use Rattle.roll.proofs.put_rolled.Given as goal

abbrev pub invariant-loop-at : goal.invariant-loop-at
invariant-loop-at l = (l.at ≤ length l.s) × Laid l.s l.initial.room l.room l.at l.end

abbrev pub decreases-loop-at : goal.decreases-loop-at
decreases-loop-at l = length l.s - l.at
