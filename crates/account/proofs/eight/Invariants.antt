-- The loop keeps: the part of the events so far, within the bounds of so many.
-- Assumes nothing.
use Rattle.std.proofs.Common.{◌≡◌, ◌+◌, ◌≤◌}
use Rattle.tally.specs.Part.{PartWithin}
use Rattle.account.specs.Lanes.{part_of}
use Rattle.account.proofs.eight.Given as goal

abbrev pub invariant-loop-i : goal.invariant-loop-i
invariant-loop-i l = (l.i ≤ 8) × PartWithin l.rise l.i l.p × (l.p ≡ part_of l.rise (l.span + 16) l.s l.from l.i)
