-- What is left to put leaves what all leave: one tick put, and then the rest.
-- Assumes nothing.
use Prim.Native.Nat.{◌+◌, ◌-◌, ◌*◌, ◌/◌, ◌%◌, ◌≤◌}
use mathlib.Core.Path.{◌≡◌}
use lib.ListN.{length}
use Rattle.wire.specs.Wire.{put}
use Rattle.roll.specs.Steps.{repeated_fields}
use Rattle.roll.proofs.bytes.put_ticks.Given as goal

abbrev pub invariant-loop : goal.invariant-loop
invariant-loop l =
    (l.end ≡ l.at + 6 * l.counter) × (l.at + 6 * l.count ≤ length l.initial.s)
    × (put l.s l.end (repeated_fields (l.count - l.counter) (l.tick % 65536) (l.tick / 65536)) ≡ put l.initial.s l.at (repeated_fields l.count (l.tick % 65536) (l.tick / 65536)))
