-- The loop keeps: the parts so far stand side by side.
-- Assumes nothing.
use Rattle.std.proofs.Common.{◌≡◌, ◌+◌, ◌*◌, ◌≤◌, length}
use Rattle.tally.specs.Part.{Lanes}
use Rattle.account.specs.Lanes.{part_of}
use Rattle.account.proofs.parts.Given as goal

abbrev pub invariant-loop-i : goal.invariant-loop-i
invariant-loop-i l =
    (l.i ≤ 8) × (length l.levels ≡ 8) × (length l.tops ≡ 8) × (length l.lows ≡ 8) × (l.total ≤ 524280 * l.i)
    × Lanes l.rise (record { levels = l.levels; tops = l.tops; lows = l.lows; total = l.total; good = l.good }) (λ j. part_of l.rise (l.span + 16) l.s (l.from + 48 * j) 8) l.i
