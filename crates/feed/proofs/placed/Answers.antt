-- Within the array the byte is stored; past its end nothing is, as `set` has it.
-- Assumes nothing.
use mathlib.Core.Path.{sym}
use native.Mathlib.Omega.{arith}
use lib.Seq.{set_out}
use Rattle.feed.proofs.placed.Goals as goal

pub returns-else-at-lt14 : goal.returns-else-at-lt14
returns-else-at-lt14 c = sym (set_out _ _ _ (omega (arith, c.well_formed.0)))
