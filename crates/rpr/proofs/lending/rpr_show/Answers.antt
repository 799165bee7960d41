-- A slice of another length is 2; else the room holds what the station said, where it was not refused.
-- Assumes nothing.
use mathlib.Core.Path.{◌∙◌}
use Rattle.rpr.specs.Station.{show_answer, show_after}
use Rattle.layout.specs.Reading.{reading_bytes}
use Rattle.rpr.proofs.Given.{not_whole, range_known, then_not_whole, then_whole_gives, refusal_back, left_back}
use Rattle.rpr.proofs.lending.rpr_show.Goals as goal

pub returns-then-station-ne-LENGTH : goal.returns-then-station-ne-LENGTH
unfolding show_answer show_after
returns-then-station-ne-LENGTH c = let lent : _ = c.args in
    let gives = not_whole _ lent.station.now _ _ _ _ c.if-station-ne-LENGTH.true in
    record { value = gives.0; room_after = gives.1 }

pub returns-then-room-ne-READING : goal.returns-then-room-ne-READING
unfolding show_answer show_after
returns-then-room-ne-READING c =
    let lent : _ = c.args in
    let gives = then_not_whole _ lent.room.now _ _ _ _ _ lent.station.now c.if-station-ne-LENGTH.false c.if-room-ne-READING.true in
    record { value = gives.0; room_after = gives.1 }

pub show_known-requires : goal.show_known-requires
show_known-requires c = range_known _ _ c.in_range-good.ensures c.read.ensures

pub returns-in-Err : goal.returns-in-Err
unfolding show_answer show_after
returns-in-Err c =
    let lent : _ = c.args in
    let said = rw c.read.ensures at c.show_known.ensures in
    let gives = then_whole_gives _ lent.room.now _ c.if-room-ne-READING.false _ _ _ _ lent.station.now c.if-station-ne-LENGTH.false
    (refusal_back _ reading_bytes _ _ _ said _ c.in-Err.is) in
    record { value = c.number.ensures ∙ gives.0; room_after = gives.1 }

pub returns-in-Ok : goal.returns-in-Ok
unfolding show_answer show_after
returns-in-Ok c =
    let lent : _ = c.args in
    let said = rw c.read.ensures at c.show_known.ensures in
    let gives = then_whole_gives _ lent.room.now _ c.if-room-ne-READING.false _ _ _ _ lent.station.now c.if-station-ne-LENGTH.false
    (left_back _ reading_bytes _ _ _ said _ c.in-Ok.is c.write_reading.ensures) in
    record { value = gives.0; room_after = gives.1 }
