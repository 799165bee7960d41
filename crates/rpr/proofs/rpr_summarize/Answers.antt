-- A room of another length is 2; else what the record comes to is handed over.
-- Assumes nothing.
use mathlib.Core.Path.{◌∙◌}
use Rattle.rpr.proofs.Rows.{summarize_room, summarize_whole}
use Rattle.rpr.proofs.rpr_summarize.Goals as goal

pub returns-then-room-ne-LENGTH : goal.returns-then-room-ne-LENGTH
returns-then-room-ne-LENGTH c =
    let gives = summarize_room _ _ c.if-room-ne-LENGTH.true in
    record { value = gives.0; room_after = gives.1 }

pub returns : goal.returns
returns c =
    let whole = summarize_whole _ _ c.if-room-ne-LENGTH.false _ c.summarize-whole.ensures in
    let handed : _ = c.hand_over.ensures in record { value = handed.value ∙ whole.0; room_after = handed.room_after ∙ whole.1 }
