-- The blocks halved so far, until they are one.
-- Assumes nothing.
use Rattle.stretch.proofs.Parting.{Halving}
use Rattle.stretch.proofs.parts.parted_at.Given as goal

abbrev pub invariant-loop-a : goal.invariant-loop-a
invariant-loop-a l = Halving l.x l.y l.a l.b l.h

abbrev pub decreases-loop-a : goal.decreases-loop-a
decreases-loop-a l = l.b
