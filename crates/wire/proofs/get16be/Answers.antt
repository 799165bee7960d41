-- `wire::get16be` meets its contract. The number that two bytes hold, greatest first, is `be 2`, written out.
-- Assumes nothing.
use native.Mathlib.Omega.{arith}
use native.Mathlib.Numerals.{towards_numerals}
use Rattle.wire.specs.Wire.{be}
use Rattle.wire.proofs.Standard.{be_taken}
use Rattle.wire.proofs.get16be.Goals as goal

pub returns : goal.returns
unfolding be
returns c = rw (← be_taken 2 c.args.s.now c.args.at, ← c.read.ensures) (simp towards_numerals (omega arith))
