-- `wire::get48be` meets its contract. The number that six bytes hold, greatest first, is `be 6`, written out.
-- Assumes nothing.
use native.Mathlib.Omega.{arith}
use native.Mathlib.Numerals.{towards_numerals}
use Rattle.wire.specs.Wire.{be}
use Rattle.wire.proofs.Standard.{be_taken}
use Rattle.wire.proofs.get48be.Goals as goal

pub returns : goal.returns
unfolding be
returns c = rw (← be_taken 6 c.args.s.now c.args.at, ← c.read.ensures) (simp towards_numerals (omega arith))
