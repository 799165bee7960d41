-- The puts lay the header's parts one behind the other: `laid_put`.
-- Assumes nothing.
use Rattle.wire.proofs.Laid.{laid_put}
use Rattle.record.specs.Record.{header_parts, header_bytes}
use Rattle.roll.proofs.bytes.put_header.Goals as goal

pub returns : goal.returns
unfolding header_bytes
returns c =
    rw (c.put32-2.ensures, c.put32.ensures, c.put16-3.ensures, c.put16-2.ensures, c.put16.ensures)
    (laid_put (header_parts c.args.limits) c.args.s.now 0 c.requires.1)
