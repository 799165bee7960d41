-- `wire::put48be` meets its contract. The last six bytes that std writes are the number's, greatest first: `written_be`.
-- Assumes nothing.
use mathlib.Core.Path.{◌∙◌}
use Rattle.wire.proofs.Standard.{written_be}
use Rattle.wire.proofs.put48be.Goals as goal

pub returns : goal.returns
returns c = (rw c.to_be_bytes.ensures at c.write.ensures) ∙ rw (← written_be 6 c.args.v)
