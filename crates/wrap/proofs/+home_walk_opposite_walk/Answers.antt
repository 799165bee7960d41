-- The proof of the cycle of calls {home_walk, opposite_walk}: each return is a step of the course, and twice the hops left falls, with 1 where no turn came just before.
-- Assumes nothing.
use mathlib.Core.Path.{sym, ap, ◌∙◌}
use Rattle.wrap.proofs.Steps.{all_of, arrived, used, used_away, moves, turned_away, caught_home, moves_away, turned_back, caught_away}
use Rattle.wrap.proofs.+home_walk_opposite_walk.Goals as goal

pub home_walk-returns-then-stop-target : goal.home_walk-returns-then-stop-target
home_walk-returns-then-stop-target t c =
    let a = c.args in
    let s = a.stop in
    arrived s.stations a.links a.target a.home a.left s.at a.moved c.if-stop-target.true

pub home_walk-returns-then-left-eq0 : goal.home_walk-returns-then-left-eq0
home_walk-returns-then-left-eq0 t c =
    let a = c.args in
    let s = a.stop in
    used s.stations a.links a.target a.home a.left s.at a.moved c.if-left-eq0.true c.if-stop-target.false

pub home_walk-returns-then-ahead : goal.home_walk-returns-then-ahead
home_walk-returns-then-ahead t c =
    let a = c.args in
    let s = a.stop in
    moves s.stations a.links a.target a.home a.left s.at a.moved c.if-left-eq0.false c.if-stop-target.false (sym c.if-ahead.ensures) c.next-on.ensures.ring c.next-on.ensures.station
    c.home_walk.ensures

pub home_walk-returns-then-turned : goal.home_walk-returns-then-turned
home_walk-returns-then-turned t c =
    let a = c.args in
    let s = a.stop in
    caught_home s.stations a.links a.target a.home a.left s.at a.moved c.if-left-eq0.false c.if-stop-target.false (sym c.if-ahead.ensures) (c.requires.1 c.if-turned.true)

pub home_walk-returns-else-turned : goal.home_walk-returns-else-turned
home_walk-returns-else-turned t c =
    let a = c.args in
    let s = a.stop in
    c.opposite_walk.ensures
    ∙ ap (all_of a.moved) (sym (turned_away s.stations a.links a.target a.home a.left s.at a.moved c.if-left-eq0.false c.if-stop-target.false (sym c.if-ahead.ensures)))

pub opposite_walk-returns-then-left-eq0 : goal.opposite_walk-returns-then-left-eq0
opposite_walk-returns-then-left-eq0 t c =
    let a = c.args in
    let s = a.stop in
    used_away s.stations a.links a.target a.home a.left s.at a.moved c.if-left-eq0.true

pub opposite_walk-returns-then-moves_on : goal.opposite_walk-returns-then-moves_on
opposite_walk-returns-then-moves_on t c =
    let a = c.args in
    let s = a.stop in
    moves_away s.stations a.links a.target a.home a.left s.at a.moved c.if-left-eq0.false
    c.other-away.result
    c.other-away.ensures
    c.moves_on.result
    c.moves_on.ensures
    c.if-moves_on.true
    c.next-on.ensures.ring
    c.next-on.ensures.station
    c.opposite_walk.ensures

pub opposite_walk-returns-then-turned : goal.opposite_walk-returns-then-turned
opposite_walk-returns-then-turned t c =
    let a = c.args in
    let s = a.stop in
    let p = c.requires.1 c.if-turned.true in
    caught_away s.stations a.links a.target a.home a.left s.at a.moved c.if-left-eq0.false
    c.other-away.result
    c.other-away.ensures
    c.moves_on.result
    c.moves_on.ensures
    p.1
    p.0
    c.if-moves_on.false

pub opposite_walk-returns-else-turned : goal.opposite_walk-returns-else-turned
opposite_walk-returns-else-turned t c =
    let a = c.args in
    let s = a.stop in
    let back =
    turned_back s.stations a.links a.target a.home a.left s.at a.moved c.if-left-eq0.false
    c.other-away.result
    c.other-away.ensures
    c.moves_on.result
    c.moves_on.ensures
    c.if-moves_on.false in
    c.home_walk.ensures ∙ ap (all_of a.moved) (sym back)
