-- The stores are those of `pushed`, one for one.
-- Assumes nothing.
use mathlib.Core.Path.{refl}
use Rattle.queue.specs.Queue.{pushed}
use Rattle.queue.proofs.Queue.push.Goals as goal

pub returns : goal.returns
unfolding pushed
returns c = rw c.word-word.ensures refl
