-- `settings::Fairness::in_range` meets its contract. The comparisons stand in the order of the definition, and the coefficients are tested by their lists.
-- Assumes nothing.
use Rattle.decide.specs.Test.{test}
use mathlib.Core.Bool.{and_assoc}
use Rattle.settings.proofs.Fairness.in_range.Goals as goal

pub returns : goal.returns
unfolding test
returns c = simp (c.coef_ok-2.ensures, c.coef_ok.ensures, c.age_ok.ensures, and_assoc)
