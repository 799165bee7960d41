-- `advert::read` meets its contract: each field is what was read at its place.
-- Assumes nothing.
use mathlib.Core.Path.{refl}
use Rattle.advert.proofs.read.Goals as goal

pub returns : goal.returns
returns c =
    rw (
      c.get16be-rate.ensures,
      c.get48be-address.ensures,
      c.get8-base.ensures,
      c.get8-ttl.ensures,
    )
    refl
