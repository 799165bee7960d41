-- The frame is that of the stage's word, and the credits are the lent ones.
-- Assumes nothing.
use mathlib.Core.Path.{refl}
use Rattle.selection.proofs.Sight.stage_goes.Goals as goal

pub returns : goal.returns
returns c = rw c.of-frame.ensures refl
