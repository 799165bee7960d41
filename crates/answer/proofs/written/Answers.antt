-- The number is cut to its four bytes, and they make it.
-- Assumes nothing.
use native.Mathlib.Omega.{arith}
use Rattle.answer.proofs.Bytes.{packed_cut}
use Rattle.answer.proofs.written.Goals as goal

pub returns : goal.returns
returns c = omega (arith, packed_cut c.args.n)
