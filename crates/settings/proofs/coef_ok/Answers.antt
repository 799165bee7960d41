-- `settings::coef_ok` meets its contract. The comparisons stand in the order of the paper's list.
-- Assumes nothing.
use mathlib.Core.Bool.{or_assoc}
use mathlib.Core.Path.{refl}
use Rattle.decide.specs.Test.{test}
use Rattle.settings.proofs.coef_ok.Goals as goal

pub returns : goal.returns
unfolding test
returns c = simp or_assoc refl
