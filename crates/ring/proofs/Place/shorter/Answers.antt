-- `Place::shorter` meets its contract: it tests what the definition tests.
-- Assumes nothing.
use mathlib.Core.Path.{◌∙◌}
use Rattle.ring.proofs.Rows.{right_shorter, left_shorter, neither_shorter}
use Rattle.ring.proofs.Place.shorter.Goals as goal

pub returns-then-right-left : goal.returns-then-right-left
returns-then-right-left c =
    let a = c.args in
    right_shorter a.self.stations a.self.own a.self.target c.distance-right.result c.distance-left.result c.distance-right.ensures c.distance-left.ensures
    c.if-right-left.true

pub returns-then-left-right : goal.returns-then-left-right
returns-then-left-right c =
    let a = c.args in
    left_shorter a.self.stations a.self.own a.self.target c.distance-right.result c.distance-left.result c.distance-right.ensures c.distance-left.ensures
    c.if-left-right.true

pub returns-else-left-right : goal.returns-else-left-right
returns-else-left-right c =
    let a = c.args in
    c.tie.ensures
    ∙ neither_shorter a.self.stations a.self.own a.self.target c.distance-right.result c.distance-left.result c.distance-right.ensures c.distance-left.ensures
    c.if-right-left.false
    c.if-left-right.false
