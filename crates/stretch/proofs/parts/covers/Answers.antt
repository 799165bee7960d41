-- Both ends are the entry's.
-- Assumes nothing.
use Rattle.stretch.specs.Parting.{covers_of}
use Rattle.stretch.proofs.parts.covers.Goals as goal

pub returns : goal.returns
unfolding covers_of
returns c = rw c.lesser.ensures
