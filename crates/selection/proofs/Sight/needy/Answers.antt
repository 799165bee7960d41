-- The comparison is the test.
-- Assumes nothing.
use Prim.Native.Nat.{ℕ}
use mathlib.Core.Path.{ap}
use lib.Dec.{ltb}
use Rattle.decide.specs.Test.{test}
use Rattle.selection.proofs.Sight.needy.Goals as goal

pub returns : goal.returns
unfolding test
returns c = let x = c.args in ap (λ (space : ℕ). ltb space x.settings.mtu) c.space.ensures
