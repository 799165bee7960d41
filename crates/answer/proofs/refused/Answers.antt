-- The number fits its byte, and what it says is cut to its four.
-- Assumes nothing.
use native.Mathlib.Omega.{arith}
use Rattle.answer.proofs.Bytes.{packed_cut}
use Rattle.answer.proofs.refused.Goals as goal

pub returns : goal.returns
returns c = omega (arith, packed_cut c.args.detail)
