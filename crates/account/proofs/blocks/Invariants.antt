-- Each block without a fault goes over to the tally, and what is left keeps its answer.
-- Assumes nothing.
use Rattle.std.proofs.Common.{◌≡◌, ◌+◌, ◌-◌, ◌*◌, ◌≤◌, Bool, length}
use Rattle.shaper.specs.Limits.{most_events}
use Rattle.tally.specs.Part.{Steady}
use Rattle.account.specs.Rest.{Passed}
use Rattle.account.proofs.blocks.Given as goal

abbrev pub invariant-loop : goal.invariant-loop
invariant-loop l =
    (l.counter ≤ l.count) × (l.done + 64 * l.count ≤ l.most) × (l.most ≤ most_events) × (l.from + 384 * l.count ≤ length l.s) × (l.at ≡ l.from + 384 * l.counter) × (l.n ≡ l.done + 64 * l.counter)
    × Steady (l.limits.hi - l.limits.lo) l.t
    × ((runs : Bool) → Passed runs l.limits l.s l.from l.done l.initial.t (64 * l.counter) l.at l.t)
