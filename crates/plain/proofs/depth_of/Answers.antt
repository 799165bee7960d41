-- By the sign of the ceiling, whose absolute value is what is added or taken off.
-- Assumes nothing.
use Prim.Native.Nat.{ℕ, ◌+◌, ◌-◌}
use mathlib.Core.Bool.{true, false, false≢true}
use mathlib.Core.Path.{◌≡◌, sym, ◌∙◌}
use native.Mathlib.Omega.{arith}
use borrow.Author.Tests.{ltb-true}
use lib.IntN.{ℤ, pos, negsuc, nat_abs}
use lib.Signed.{lt_z}
use mir.Facts.{to_z-of_z}
use Rattle.plain.specs.Ceiling.{depth_below}
use Rattle.plain.proofs.depth_of.Goals as goal

below_zero : (hi : ℕ) (y z : ℤ) → y ≡ z → lt_z y (pos 0) ≡ true → hi + nat_abs y ≡ depth_below hi z
unfolding depth_below
below_zero hi (pos n) z e h = let l = ltb-true n 0 h in absurd (omega arith)
below_zero hi (negsuc n) z e h = rw (sym e) (omega arith)

from_zero : (hi : ℕ) (y z : ℤ) → y ≡ z → lt_z y (pos 0) ≡ false → hi - nat_abs y ≡ depth_below hi z
unfolding depth_below
from_zero hi (pos n) z e h = rw (sym e) (omega arith)
from_zero hi (negsuc n) z e h = absurd (false≢true (sym h))

pub returns-then-ceiling-lt0 : goal.returns-then-ceiling-lt0
returns-then-ceiling-lt0 c =
    rw c.unsigned_abs.ensures.value (below_zero c.args.hi _ c.args.ceiling (to_z-of_z c.ranges.ceiling) c.if-ceiling-lt0.true)

pub returns-else-ceiling-lt0 : goal.returns-else-ceiling-lt0
returns-else-ceiling-lt0 c =
    c.less.ensures ∙ from_zero c.args.hi _ c.args.ceiling (to_z-of_z c.ranges.ceiling) c.if-ceiling-lt0.false
