-- Both numbers are read at their places.
-- Assumes nothing.
use Rattle.index.specs.Entry.{place_in}
use Rattle.index.proofs.entries.place_at.Goals as goal

pub returns : goal.returns
unfolding place_in
returns c = rw (c.get32-2.ensures, c.get32.ensures)
