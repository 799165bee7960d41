-- What is picked by what a selection looks at (`sight_picks`), and the station that this leaves (`pick_leaves`).
-- Assumes nothing.
use mathlib.Core.Path.{◌≡◌, sym, ◌∙◌}
use Rattle.station.specs.Pick.{pick_of}
use Rattle.station.proofs.Select.{pick_leaves, sight_picks}
use Rattle.station.proofs.Station.chosen.Goals as goal

pub returns : goal.returns
returns c =
    let st = c.args.self in
    let e : c.picked-pick.result ≡ pick_of st = rw c.of-sight.ensures at c.picked-pick.ensures ∙ sight_picks st in
    rw (c.leave-rest.ensures, e) (sym (pick_leaves st))
