-- `layout::read` meets its contract. Each part is what stands at its place.
-- Assumes nothing.
use mathlib.Core.Path.{refl}
use Rattle.layout.specs.Layout.{station_at}
use Rattle.layout.proofs.read.Goals as goal

pub returns : goal.returns
unfolding station_at
returns c =
    rw (c.read-5.ensures, c.read-4.ensures, c.get32.ensures, c.read-3.ensures, c.read-2.ensures, c.read.ensures, c.read_credits.ensures)
    refl
