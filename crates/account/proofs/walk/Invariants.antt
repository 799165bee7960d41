-- What is left keeps its answer with each item that the decoder finds; an end, a fault or one event too many is that answer. Behind 64 items the walk has moved on.
-- Assumes nothing.
use Rattle.std.proofs.Common.{◌≡◌, ℕ, ◌+◌, ◌-◌, ◌*◌, ◌<◌, ◌≤◌, length, drop}
use Rattle.shaper.specs.Limits.{most_events}
use Rattle.tally.specs.Tally.{Ready}
use Rattle.tally.specs.Part.{Steady}
use Rattle.account.specs.declared.Reach.{Reach}
use Rattle.account.specs.Rest.{rest_of}
use Rattle.account.proofs.walk.Given as goal

-- so many events are tallied where `left` of the budget are left
abbrev pub done_of : Reach → ℕ → ℕ → ℕ
done_of far budget left = far.n + (budget - left)

abbrev pub invariant-loop : goal.invariant-loop
invariant-loop l =
    Ready l.fn.limits (done_of l.far l.budget l.left) l.t × Steady (l.fn.limits.hi - l.fn.limits.lo) l.t × (l.left ≤ l.budget) × (l.far.n + l.budget ≤ most_events) × (l.far.at + 6 * l.counter ≤ l.at) × (l.at ≤ length l.s) × (l.far.at < length l.s)
    × (rest_of l.runs 9 l.fn.limits l.left (done_of l.far l.budget l.left) l.t (drop l.at l.s) ≡ rest_of l.runs 9 l.fn.limits l.budget l.far.n l.far.tally (drop l.far.at l.s))
