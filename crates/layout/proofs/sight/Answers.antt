-- `layout::sight` meets its contract. Each part is what stands at its place.
-- Assumes nothing.
use mathlib.Core.Path.{refl}
use Rattle.layout.specs.Layout.{station_at}
use Rattle.layout.proofs.sight.Goals as goal

pub returns : goal.returns
unfolding station_at
returns c =
    rw (c.front-3.ensures, c.front-2.ensures, c.front.ensures, c.get32.ensures, c.read_credits.ensures)
    refl
