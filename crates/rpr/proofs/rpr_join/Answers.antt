-- Each slice of another length is 2; else the join of what the two hold is handed over.
-- Assumes nothing.
use mathlib.Core.Path.{◌∙◌}
use Rattle.rpr.proofs.Rows.{join_first, join_second, join_room, join_whole}
use Rattle.rpr.proofs.rpr_join.Goals as goal

pub returns-then-first-ne-LENGTH : goal.returns-then-first-ne-LENGTH
returns-then-first-ne-LENGTH c =
    let gives = join_first _ _ _ c.if-first-ne-LENGTH.true in
    record { value = gives.0; room_after = gives.1 }

pub returns-then-second-ne-LENGTH : goal.returns-then-second-ne-LENGTH
returns-then-second-ne-LENGTH c =
    let gives = join_second _ _ _ c.if-first-ne-LENGTH.false c.if-second-ne-LENGTH.true in
    record { value = gives.0; room_after = gives.1 }

pub returns-then-room-ne-LENGTH : goal.returns-then-room-ne-LENGTH
returns-then-room-ne-LENGTH c =
    let gives = join_room _ _ _ c.if-first-ne-LENGTH.false c.if-second-ne-LENGTH.false c.if-room-ne-LENGTH.true in
    record { value = gives.0; room_after = gives.1 }

pub returns : goal.returns
returns c =
    let joined = rw (c.read.ensures, c.read-2.ensures) at c.join-joined.ensures in
    let whole = join_whole _ _ _ c.if-first-ne-LENGTH.false c.if-second-ne-LENGTH.false c.if-room-ne-LENGTH.false _ joined in
    let handed : _ = c.hand_over.ensures in record { value = handed.value ∙ whole.0; room_after = handed.room_after ∙ whole.1 }
