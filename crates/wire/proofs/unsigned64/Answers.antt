-- `wire::unsigned64` meets its contract. std's bits are those of the number: `unsigned_same`.
-- Assumes nothing.
use mathlib.Core.Path.{◌∙◌}
use mir.Facts.{to_z-of_z}
use Rattle.wire.proofs.Standard.{unsigned_same}
use Rattle.wire.proofs.unsigned64.Goals as goal

pub returns : goal.returns
returns c = c.cast_unsigned.ensures ∙ rw (to_z-of_z c.ranges.x) (unsigned_same c.args.x)
