-- The events that are skipped, and then those that are summed: a fault of either, or the summary.
-- Assumes nothing.
use mathlib.Core.Path.{sym, ◌∙◌}
use Rattle.stretch.specs.Found.{source_of}
use Rattle.stretch.proofs.PartSplit.{part_skipped_fault, part_summed_fault, part_both}
use Rattle.stretch.proofs.parts.part_found.Goals as goal

pub returns-in-Ok-part : goal.returns-in-Ok-part
returns-in-Ok-part c =
    let a = c.args in
    let q = source_of a.limits a.s.now a.index.now 0 in
    let e = rw c.place_at-place.ensures at (sym c.part.ensures ∙ c.in-Ok.is) in
    let d = sym c.part-in-Ok.ensures ∙ c.in-Ok-part.is in
    sym (part_both q a.x a.skipped a.count c.requires.3 _ e _ d)

pub returns-in-Err-part : goal.returns-in-Err-part
returns-in-Err-part c =
    let a = c.args in
    let q = source_of a.limits a.s.now a.index.now 0 in
    let e = rw c.place_at-place.ensures at (sym c.part.ensures ∙ c.in-Ok.is) in
    let d = sym c.part-in-Ok.ensures ∙ c.in-Err-part.is in
    sym (part_summed_fault q a.x a.skipped a.count c.requires.3 _ e _ d)

pub returns-in-Err : goal.returns-in-Err
returns-in-Err c =
    let a = c.args in
    let q = source_of a.limits a.s.now a.index.now 0 in
    let e = rw c.place_at-place.ensures at (sym c.part.ensures ∙ c.in-Err.is) in
    sym (part_skipped_fault q a.x a.skipped a.count c.requires.3 _ e)
