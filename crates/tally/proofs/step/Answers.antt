-- The fields one by one, each what its own function ensures; the bounds of a tally keep every sum and difference in its type.
-- Assumes nothing.
use Prim.Native.Nat.{◌+◌, ◌-◌}
use native.Mathlib.Omega.{arith}
use Rattle.tally.proofs.Cases.{pick_max, fall_max}
use Rattle.tally.proofs.step.Goals as goal

pub overflow_add-level : goal.overflow_add-level
overflow_add-level c =
    let a = c.args in
    omega (arith, pick_max a.k (a.t.level - a.v) (a.t.level + a.v), fall_max a.k a.rise)

pub returns : goal.returns
returns c = cc
