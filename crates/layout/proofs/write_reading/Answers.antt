-- `layout::write_reading` meets its contract. Puts one behind the other that fill the slice are the parts: `laid_whole`.
-- Assumes nothing.
use mathlib.Core.Path.{sym}
use Rattle.wire.proofs.Laid.{laid_whole}
use Rattle.layout.specs.Reading.{reading_parts, reading_bytes}
use Rattle.layout.proofs.write_reading.Goals as goal

pub returns : goal.returns
unfolding reading_bytes
returns c =
    rw (
      c.write_received.ensures,
      c.write_decided.ensures,
      c.write_four-2.ensures,
      c.write_four.ensures,
      c.write_held-4.ensures,
      c.write_held-3.ensures,
      c.write_held-2.ensures,
      c.write_held.ensures,
      c.put_credits.ensures,
    )
    (laid_whole (reading_parts c.args.r) c.args.s.now (sym c.requires))
