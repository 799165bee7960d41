-- Blocks go over to the tally as far as they have no fault, then items one by one; what is left keeps its answer.
-- Assumes nothing.
use Rattle.std.proofs.Common.{◌≡◌, ◌-◌, ◌≤◌, length, drop}
use Rattle.shaper.specs.Limits.{most_events}
use Rattle.tally.specs.Tally.{Ready}
use Rattle.tally.specs.Part.{Steady}
use Rattle.account.specs.Account.{events_of}
use Rattle.account.specs.Rest.{rest_of}
use Rattle.account.proofs.events.Given as goal

abbrev pub invariant-loop-limits : goal.invariant-loop-limits
invariant-loop-limits l =
    (l.at ≤ length l.s) × (l.n ≤ l.most) × (l.most ≤ most_events) × Ready l.limits l.n l.t × Steady (l.limits.hi - l.limits.lo) l.t
    × (rest_of l.runs 9 l.limits (l.most - l.n) l.n l.t (drop l.at l.s) ≡ events_of l.runs l.limits l.most l.s)

abbrev pub decreases-loop-limits : goal.decreases-loop-limits
decreases-loop-limits l = length l.s - l.at
