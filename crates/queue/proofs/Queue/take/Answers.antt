-- The stores are those of `taken`, one for one; counting down stops at 0, as `-` does.
-- Assumes nothing.
use mathlib.Core.Path.{refl}
use Rattle.queue.specs.Queue.{first_frame, taken}
use Rattle.queue.proofs.Queue.take.Goals as goal

pub returns : goal.returns
unfolding first_frame taken
returns c = rw (c.less-2.ensures, c.less.ensures, c.of-f.ensures) refl
