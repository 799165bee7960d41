-- A number below 2^31 is the same number as a signed one.
-- Assumes nothing.
use native.Mathlib.Omega.{arith}
use borrow.Author.Tests.{lt-ltb}
use Rattle.decide.proofs.below.Goals as goal

pub returns : goal.returns
returns c = simp (lt-ltb c.args.a 2147483648 (omega arith), lt-ltb c.args.b 2147483648 (omega arith))
