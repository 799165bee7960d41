-- `layout::pick` meets its contract. What a selection looks at is enough: `sight_picks`.
-- Assumes nothing.
use mathlib.Core.Path.{◌∙◌}
use Rattle.station.proofs.Select.{sight_picks}
use Rattle.layout.proofs.pick.Goals as goal

pub returns : goal.returns
returns c =
    rw (c.sight-seen.ensures, c.read-whole.ensures) at c.picked.ensures ∙ sight_picks _
