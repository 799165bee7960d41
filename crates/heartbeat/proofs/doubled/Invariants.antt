-- From the first digit on, a turn for each: behind each stand the repeats that the digits so far make.
-- Assumes nothing.
use Prim.Native.Nat.{◌-◌, ◌/◌, ◌^◌, ◌≤◌}
use mathlib.Core.Path.{◌≡◌}
use Rattle.heartbeat.specs.Doubling.{doubling, digits_in}
use Rattle.heartbeat.proofs.doubled.Given as goal

abbrev pub invariant-loop-digit : goal.invariant-loop-digit
invariant-loop-digit l = (l.digit ≤ digits_in l.repeats) × (l.all ≡ doubling (digits_in l.repeats - l.digit) l.one (l.repeats / 2 ^ l.digit))
