-- The turn by what stands at both places.
-- Assumes nothing.
use Rattle.apart.specs.Turn.{turn_of}
use Rattle.apart.proofs.together.turn.Goals as goal

pub returns : goal.returns
unfolding turn_of
returns c = cc
