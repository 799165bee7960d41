-- What is left, and what was counted, come to the same at each item; a fault, a place within no item or one event too many is one more than there may be.
-- Assumes nothing.
use Prim.Native.Nat.{◌+◌, ◌-◌, ◌≤◌}
use mathlib.Core.Path.{◌≡◌}
use Rattle.shaper.specs.Limits.{most_events}
use Rattle.excerpt.specs.Last.{events_left}
use Rattle.excerpt.proofs.Parts.{placed}
use Rattle.excerpt.proofs.events_left.Given as goal

abbrev pub invariant-loop-at : goal.invariant-loop-at
invariant-loop-at l =
    (l.left ≤ l.most) × (l.most ≤ most_events) × (events_left l.left l.mtu l.s (placed l.at l.gone) + (l.most - l.left) ≡ events_left l.most l.mtu l.s (placed l.initial.at l.initial.gone))

abbrev pub decreases-loop-at : goal.decreases-loop-at
decreases-loop-at l = l.left
