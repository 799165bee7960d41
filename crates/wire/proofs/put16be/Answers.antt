-- `wire::put16be` meets its contract. The bytes that std writes are the number's, greatest first: `written_be`.
-- Assumes nothing.
use Rattle.wire.proofs.Standard.{written_be}
use Rattle.wire.proofs.put16be.Goals as goal

pub returns : goal.returns
returns c = cc (written_be 2 c.args.v)
