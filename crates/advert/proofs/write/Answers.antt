-- `advert::write` meets its contract. The puts lay the frame's parts one behind the other, and these fill the room: `laid_whole`.
-- Assumes nothing.
use Rattle.wire.proofs.Laid.{laid_whole}
use Rattle.advert.specs.Frame.{parts_of, advert_bytes}
use mathlib.Core.Path.{sym}
use Rattle.advert.proofs.write.Goals as goal

pub returns : goal.returns
unfolding advert_bytes
returns c =
    rw (
      c.put16be-2.ensures,
      c.put16be.ensures,
      c.put48be.ensures,
      c.put8-2.ensures,
      c.put8.ensures,
    )
    (laid_whole (parts_of c.args.advert) c.args.room.now (sym c.requires))
