-- `wire::get16` meets its contract. The number that std reads from the bytes is theirs: `le_sum`. Taken by themselves they are the same: `le_taken`.
-- Assumes nothing.
use mathlib.Core.Path.{◌∙◌}
use Rattle.wire.proofs.Standard.{le_sum, le_taken}
use Rattle.wire.proofs.get16.Goals as goal

pub returns : goal.returns
returns c = c.from_le_bytes.ensures ∙ rw c.read.ensures (le_sum 1 _ ∙ le_taken 2 c.args.s.now c.args.at)
