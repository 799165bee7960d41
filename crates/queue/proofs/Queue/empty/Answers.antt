-- The array is 128 times the empty word.
-- Assumes nothing.
use mathlib.Core.Path.{refl}
use Rattle.queue.specs.Queue.{empty_queue}
use Rattle.queue.proofs.Queue.empty.Goals as goal

pub returns : goal.returns
unfolding empty_queue
returns c = refl
