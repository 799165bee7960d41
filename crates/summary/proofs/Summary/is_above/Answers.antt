-- Both sides are compared as the integers that they stand for.
-- Assumes nothing.
use Prim.Native.Nat.{◌<◌}
use mir.Facts.{to_z_pos, to_z-of_z}
use mir.Syntax.{w64}
use native.Mathlib.Omega.{arith}
use borrow.Author.Rules.{rules}
use Rattle.summary.proofs.Summary.is_above.Goals as goal

pub returns : goal.returns
returns c =
    let small : c.args.self.limits.hi < 9223372036854775808 = omega arith in
    let back = to_z-of_z {w = w64} {z = c.args.self.ceiling} (search rules) in
    simp (to_z_pos w64 small, back)
