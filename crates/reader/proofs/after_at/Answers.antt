-- With an item that is found no more than a million events have come, and the place is behind it.
-- Assumes nothing.
use Rattle.std.specs.Prelude.{Ok}
use mathlib.Core.Path.{sym, ap, ◌∙◌}
use native.Mathlib.Omega.{arith}
use Rattle.record.specs.Step.{Step}
use Rattle.reader.specs.Place.{after}
use Rattle.reader.proofs.Rows.{next_stands}
use Rattle.reader.proofs.after_at.Goals as goal

pub overflow_add-result : goal.overflow_add-result
overflow_add-result c =
    let i = c.in-Ok-Some.item in
    let found = sym c.read_at.ensures ∙ c.in-Ok-Some.is ∙ ap Ok c.in-Ok-Some.field-0-is in
    record { fits = omega (arith, (next_stands c.args.bytes.now c.args.place i.kind i.number i.count i.next found).1) }

pub returns-in-Ok-Some : goal.returns-in-Ok-Some
returns-in-Ok-Some c =
    let found = sym c.read_at.ensures ∙ c.in-Ok-Some.is ∙ ap Ok c.in-Ok-Some.field-0-is in
    sym (ap (λ (s : Step). after s c.args.place) found)
