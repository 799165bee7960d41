-- What the mover answers and leaves is what the call does, by its rows.
-- Assumes nothing.
use mathlib.Core.Path.{sym, ap, ◌∙◌}
use Rattle.roll.specs.Moved.{rolled_bytes}
use Rattle.rpr.specs.Movers.{roll_answer, roll_after}
use Rattle.rpr.proofs.Movers.{told_of, roll_numbered, mover_gives}
use Rattle.rpr.proofs.rpr_roll.Goals as goal

pub returns-in-Ok : goal.returns-in-Ok
unfolding roll_answer roll_after
returns-in-Ok c =
    let a = c.args in
    let m = c.roll-moved.ensures in
    let g = mover_gives a.room.now (rolled_bytes a.«record».now) (roll_numbered a.«record».now) in record { value = c.written.ensures ∙ ap told_of (sym c.in-Ok.is ∙ m.value) ∙ g.0; room_after = m.room_after ∙ g.1 }

pub returns-in-Err : goal.returns-in-Err
unfolding roll_answer roll_after
returns-in-Err c =
    let a = c.args in
    let m = c.roll-moved.ensures in
    let g = mover_gives a.room.now (rolled_bytes a.«record».now) (roll_numbered a.«record».now) in record { value = c.number.ensures ∙ ap told_of (sym c.in-Err.is ∙ m.value) ∙ g.0; room_after = m.room_after ∙ g.1 }
