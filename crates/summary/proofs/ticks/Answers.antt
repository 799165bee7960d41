-- Field by field.
-- Assumes nothing.
use Prim.Native.Nat.{◌<◌}
use mir.Facts.{to_z_pos}
use mir.Syntax.{w64}
use native.Mathlib.Omega.{arith}
use Rattle.summary.proofs.ticks.Goals as goal

pub returns : goal.returns
returns c =
    let small : c.args.ceiling < 9223372036854775808 = omega arith in
    simp (to_z_pos w64 small)
