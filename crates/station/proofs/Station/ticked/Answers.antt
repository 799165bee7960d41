-- The flow is that after its tick, with this share.
-- Assumes nothing.
use mathlib.Core.Path.{ap}
use Rattle.station.specs.Answers.{with_flow}
use Rattle.station.proofs.Station.ticked.Goals as goal

pub returns : goal.returns
returns c =
    let st = c.args.self in
    rw c.share-share.ensures at (ap (with_flow st) c.tick-ticked.ensures)
