-- One row decides.
-- Assumes nothing.
use mathlib.Core.Path.{sym, ◌∙◌}
use mir.Facts.{to_z_pos}
use mir.Syntax.{w64}
use Prim.Native.Nat.{◌<◌}
use native.Mathlib.Omega.{arith}
use Rattle.summary.proofs.Rows.{empty_1, empty_made}
use Rattle.summary.proofs.Summary.empty.Goals as goal

pub returns-then-not-in_range : goal.returns-then-not-in_range
returns-then-not-in_range c = sym (empty_1 _ (sym c.in_range.ensures ∙ c.if-not-in_range.true))

pub returns : goal.returns
returns c =
    let small : c.args.limits.hi < 9223372036854775808 = omega arith in
    simp (to_z_pos w64 small) (sym (empty_made _ (sym c.in_range.ensures ∙ c.if-not-in_range.false)))
