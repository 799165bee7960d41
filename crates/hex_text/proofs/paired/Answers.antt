-- Two digits below 16 make a number below 256.
-- Assumes nothing.
use native.Mathlib.Omega.{arith}
use Rattle.hex_text.proofs.paired.Goals as goal

pub returns : goal.returns
returns c = omega arith
