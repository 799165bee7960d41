-- `stretch::halved` ends: each half is shorter than the stretch.
-- Assumes nothing.
use Prim.Native.Nat.{◌-◌}
use Rattle.stretch.proofs.+halved.Given as goal

abbrev pub decreases-halved : goal.decreases-halved
decreases-halved l = l.last - l.first
