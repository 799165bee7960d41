-- The loop keeps: sums that do not wrap, and that the parts so far are applied.
-- Assumes nothing.
use Prim.Native.Nat.{◌+◌, ◌-◌, ◌*◌, ◌≤◌}
use Rattle.tally.specs.Part.{lane_of}
use Rattle.tally.proofs.Applied.{Gone}
use Rattle.tally.proofs.Tally.over.Given as goal

abbrev pub invariant-loop-i : goal.invariant-loop-i
invariant-loop-i l =
    (l.i ≤ 8) × (l.self.level ≤ l.base + 2097152 + 2097152 * l.i) × (l.base ≤ l.self.level + 8388608 * l.i) × (l.peak ≤ l.self.peak + l.self.level + 8388608 + 8388608 * l.i)
    × (l.late ≤ l.i)
    × Gone l.rise l.self (lane_of l.parts) l.i l.base l.peak l.low l.late
