-- What the mover answers and leaves is what the call does, by its rows.
-- Assumes nothing.
use mathlib.Core.Path.{sym, ap, ◌∙◌}
use Rattle.roll.specs.Moved.{unrolled_bytes}
use Rattle.rpr.specs.Movers.{unroll_answer, unroll_after}
use Rattle.rpr.proofs.Movers.{told_of, unroll_numbered, mover_gives}
use Rattle.rpr.proofs.rpr_unroll.Goals as goal

pub returns-in-Ok : goal.returns-in-Ok
unfolding unroll_answer unroll_after
returns-in-Ok c =
    let a = c.args in
    let m = c.unroll-moved.ensures in
    let g = mover_gives a.room.now (unrolled_bytes a.«record».now) (unroll_numbered a.«record».now) in record { value = c.written.ensures ∙ ap told_of (sym c.in-Ok.is ∙ m.value) ∙ g.0; room_after = m.room_after ∙ g.1 }

pub returns-in-Err : goal.returns-in-Err
unfolding unroll_answer unroll_after
returns-in-Err c =
    let a = c.args in
    let m = c.unroll-moved.ensures in
    let g = mover_gives a.room.now (unrolled_bytes a.«record».now) (unroll_numbered a.«record».now) in record { value = c.number.ensures ∙ ap told_of (sym c.in-Err.is ∙ m.value) ∙ g.0; room_after = m.room_after ∙ g.1 }
