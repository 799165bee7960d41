-- `Place::distance` meets its contract: a remainder by the stations is below them.
-- Assumes nothing.
use Prim.Native.Nat.{◌+◌, ◌-◌}
use native.Mathlib.Nat.{mod-lt}
use native.Mathlib.Omega.{arith}
use Rattle.ring.specs.Choosing.{distance_of}
use borrow.Author.Rules.{rules}
use Rattle.ring.proofs.Place.distance.Goals as goal

pub overflow_sub-result : goal.overflow_sub-result
overflow_sub-result c =
    let a = c.args in
    omega (arith, mod-lt (a.self.target + (a.self.stations - a.self.own)) {m = a.self.stations} (search rules))

pub returns-in-Left : goal.returns-in-Left
unfolding distance_of
returns-in-Left c = cc

pub returns-in-Right : goal.returns-in-Right
unfolding distance_of
returns-in-Right c = cc
