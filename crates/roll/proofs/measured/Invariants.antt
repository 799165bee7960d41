-- What is left of the events takes what is left of the output: each turn takes an item.
-- Assumes nothing.
use Prim.Native.Nat.{◌-◌, ◌≤◌}
use lib.ListN.{length}
use Rattle.roll.specs.Moved.{rolled_bytes}
use Rattle.roll.specs.Steps.{output_of}
use Rattle.roll.proofs.Moving.{Left}
use Rattle.roll.proofs.measured.Given as goal

abbrev pub invariant-loop-at : goal.invariant-loop-at
invariant-loop-at l = (l.at ≤ length l.s) × Left l.s l.at l.total × (length (output_of (rolled_bytes l.s)) ≤ length l.s)

abbrev pub decreases-loop-at : goal.decreases-loop-at
decreases-loop-at l = length l.s - l.at
