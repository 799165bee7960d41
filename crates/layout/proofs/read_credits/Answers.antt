-- `layout::read_credits` meets its contract. Each word is what stands at its place.
-- Assumes nothing.
use native.Mathlib.Nat.{add_assoc}
use Rattle.wire.specs.Words.{words_at}
use Rattle.layout.specs.Layout.{credits_at}
use Rattle.layout.proofs.read_credits.Goals as goal

pub returns : goal.returns
unfolding words_at credits_at
returns c = rw c.read_words.ensures (simp add_assoc)
