-- What falls in each call of {home_walk, opposite_walk}: twice the hops left, and 1 where the walk has not just turned.
-- Assumes nothing.
use mathlib.Core.Bool.{cond}
use Prim.Native.Nat.{◌+◌, ◌*◌}
use Rattle.wrap.proofs.+home_walk_opposite_walk.Given as goal

abbrev pub decreases-home_walk : goal.decreases-home_walk
decreases-home_walk l = 2 * l.left + cond l.turned 0 1

abbrev pub decreases-opposite_walk : goal.decreases-opposite_walk
decreases-opposite_walk l = 2 * l.left + cond l.turned 0 1
