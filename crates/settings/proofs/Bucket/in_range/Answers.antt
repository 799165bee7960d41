-- `settings::Bucket::in_range` meets its contract. The limits are tested by the shaper's own test; the amount is the one comparison more.
-- Assumes nothing.
use Rattle.decide.specs.Test.{test}
use mathlib.Core.Bool.{and_assoc}
use Rattle.settings.proofs.Bucket.in_range.Goals as goal

pub returns : goal.returns
unfolding test
returns c = simp (c.in_range.ensures, c.limits.ensures, and_assoc)
