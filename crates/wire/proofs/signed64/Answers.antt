-- `wire::signed64` meets its contract. std reads the same integer from the bits: `signed_same`.
-- Assumes nothing.
use mir.Facts.{of_z-to_z}
use Rattle.wire.proofs.Standard.{signed_same}
use Rattle.wire.proofs.signed64.Goals as goal

pub returns : goal.returns
returns c = rw (c.cast_signed.ensures, of_z-to_z c.ranges.x) (signed_same c.args.x)
