-- A slice of another length is 2; else the room holds what the station said, where it was not refused.
-- Assumes nothing.
use mathlib.Core.Path.{◌∙◌}
use Rattle.rpr.specs.Station.{write_frame_answer, write_frame_after}
use Rattle.advert.specs.Frame.{advert_bytes}
use Rattle.rpr.proofs.Given.{not_whole, range_known, then_not_whole, then_whole_gives, refusal_back, left_back}
use Rattle.rpr.proofs.lending.rpr_write_frame.Goals as goal

pub returns-then-station-ne-LENGTH : goal.returns-then-station-ne-LENGTH
unfolding write_frame_answer write_frame_after
returns-then-station-ne-LENGTH c = let lent : _ = c.args in
    let gives = not_whole _ lent.station.now _ _ _ _ c.if-station-ne-LENGTH.true in
    record { value = gives.0; room_after = gives.1 }

pub returns-then-room-ne-LENGTH : goal.returns-then-room-ne-LENGTH
unfolding write_frame_answer write_frame_after
returns-then-room-ne-LENGTH c =
    let lent : _ = c.args in
    let gives = then_not_whole _ lent.room.now _ _ _ _ _ lent.station.now c.if-station-ne-LENGTH.false c.if-room-ne-LENGTH.true in
    record { value = gives.0; room_after = gives.1 }

pub tell_known-requires : goal.tell_known-requires
tell_known-requires c = range_known _ _ c.in_range-good.ensures c.read.ensures

pub returns-in-Err : goal.returns-in-Err
unfolding write_frame_answer write_frame_after
returns-in-Err c =
    let lent : _ = c.args in
    let said = rw c.read.ensures at c.tell_known.ensures in
    let gives = then_whole_gives _ lent.room.now _ c.if-room-ne-LENGTH.false _ _ _ _ lent.station.now c.if-station-ne-LENGTH.false
    (refusal_back _ advert_bytes _ _ _ said _ c.in-Err.is) in
    record { value = c.number.ensures ∙ gives.0; room_after = gives.1 }

pub returns-in-Ok : goal.returns-in-Ok
unfolding write_frame_answer write_frame_after
returns-in-Ok c =
    let lent : _ = c.args in
    let said = rw c.read.ensures at c.tell_known.ensures in
    let gives = then_whole_gives _ lent.room.now _ c.if-room-ne-LENGTH.false _ _ _ _ lent.station.now c.if-station-ne-LENGTH.false
    (left_back _ advert_bytes _ _ _ said _ c.in-Ok.is c.write.ensures) in
    record { value = gives.0; room_after = gives.1 }
