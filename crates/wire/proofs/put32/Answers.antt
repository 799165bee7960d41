-- `wire::put32` meets its contract. The bytes that std writes are the number's: `written`.
-- Assumes nothing.
use Rattle.wire.proofs.Standard.{written}
use Rattle.wire.proofs.put32.Goals as goal

pub returns : goal.returns
returns c = cc (written 4 c.args.v)
