-- The place grows by an item's bytes and stays within the record, so what is left of the record falls; and no more than a million events are passed.
-- Assumes nothing.
use Rattle.std.specs.Prelude.{Ok}
use mathlib.Core.Path.{sym, ap, ◌∙◌}
use native.Mathlib.Omega.{arith}
use Rattle.reader.proofs.Rows.{next_stands}
use Rattle.vectors_reader.proofs.walk.Goals as goal

-- the item that was read stands at its place
pub overflow_add-place : goal.overflow_add-place
overflow_add-place g c = omega (arith, (next_stands _ _ _ _ _ _ (sym c.read_at.ensures ∙ c.in-Ok-Some.is ∙ ap Ok c.in-Ok-Some.field-0-is)).1)

pub loop-item-smaller : goal.loop-item-smaller
loop-item-smaller g c =
    let found = next_stands _ _ _ _ _ _ (sym c.read_at.ensures ∙ c.in-Ok-Some.is ∙ ap Ok c.in-Ok-Some.field-0-is) in
    omega (arith, found.0.further, found.0.fits)
