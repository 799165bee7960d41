-- `advert::get8` meets its contract. The number in one byte is the byte.
-- Assumes nothing.
use Rattle.wire.specs.Wire.{be}
use native.Mathlib.Numerals.{towards_numerals}
use native.Mathlib.Omega.{arith}
use Rattle.advert.proofs.get8.Goals as goal

pub returns : goal.returns
unfolding be
returns c = simp towards_numerals (omega arith)
