-- `Place::reaches` meets its contract: it compares what the definition compares.
-- Assumes nothing.
use mathlib.Core.Path.{ap₂}
use lib.Dec.{leb}
use Rattle.ring.specs.Choosing.{reaches_of}
use Rattle.ring.proofs.Place.reaches.Goals as goal

pub returns : goal.returns
unfolding reaches_of
returns c = ap₂ leb c.distance.ensures c.reach.ensures
