-- `slots::read` meets its contract. Each number is what stands at its place; a byte is a number of one byte: `byte_read`.
-- Assumes nothing.
use mathlib.Core.Path.{refl}
use Rattle.slots.specs.Slots.{queue_at}
use Rattle.slots.proofs.Steps.{byte_read}
use Rattle.slots.proofs.read.Goals as goal

pub returns : goal.returns
unfolding queue_at
returns c = rw (c.read_words-slots.ensures, c.get32.ensures) (simp byte_read refl)
