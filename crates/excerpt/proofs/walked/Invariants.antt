-- The tally of the events that were taken, and what is left has the answer of the whole.
-- Assumes nothing.
use Prim.Native.Nat.{◌-◌, ◌≤◌}
use mathlib.Core.Path.{◌≡◌}
use Rattle.shaper.specs.Limits.{most_events}
use Rattle.tally.specs.Tally.{Ready}
use Rattle.excerpt.proofs.Parts.{placed}
use Rattle.excerpt.proofs.Walk.{rest_part}
use Rattle.excerpt.proofs.walked.Given as goal

abbrev pub invariant-loop-left : goal.invariant-loop-left
invariant-loop-left l =
    Ready l.limits (l.count - l.left) l.t × (l.left ≤ l.count) × (l.count ≤ most_events) × (14 ≤ l.at)
    × (rest_part l.limits (l.count - l.left) l.t l.left l.s (placed l.at l.gone) ≡ rest_part l.limits 0 l.initial.t l.count l.s (placed l.initial.at l.initial.gone))

abbrev pub decreases-loop-left : goal.decreases-loop-left
decreases-loop-left l = l.left
