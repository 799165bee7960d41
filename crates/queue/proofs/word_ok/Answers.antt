-- The size is tested as the frame's; hops with the size below them, by `some_hops` and `ring_hops`; class and mark as one number, by `kinds`.
-- Assumes nothing.
use mathlib.Core.Bool.{and_assoc}
use Rattle.decide.specs.Test.{test}
use Rattle.queue.proofs.Word.{kinds, some_hops, ring_hops}
use Rattle.queue.proofs.word_ok.Goals as goal

pub returns : goal.returns
unfolding test
returns c = rw (c.lesser.ensures, kinds, some_hops, ring_hops) (simp and_assoc)
