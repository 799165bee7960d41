-- The comparisons are the definition's.
-- Assumes nothing.
use mathlib.Core.Path.{refl}
use Rattle.decide.specs.Test.{test}
use Rattle.station.proofs.flags_ok.Goals as goal

pub returns : goal.returns
unfolding test
returns c = refl
