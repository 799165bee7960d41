-- `wire::put16` meets its contract. The bytes that std writes are the number's: `written`.
-- Assumes nothing.
use Rattle.wire.proofs.Standard.{written}
use Rattle.wire.proofs.put16.Goals as goal

pub returns : goal.returns
returns c = cc (written 2 c.args.v)
