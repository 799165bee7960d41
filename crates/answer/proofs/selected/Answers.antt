-- The size is cut to its two bytes, and they make it; the other values stand below.
-- Assumes nothing.
use native.Mathlib.Omega.{arith}
use Rattle.wire.specs.Wire.{digits}
use Rattle.answer.proofs.selected.Goals as goal

pub returns : goal.returns
unfolding digits
returns c = omega arith
