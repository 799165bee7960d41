-- One block; an entry that covers just the stretch; or both halves, each shorter than the stretch.
-- Assumes nothing.
use Prim.Native.Nat.{◌+◌, ◌-◌, ◌*◌, min}
use mathlib.Core.Path.{sym, ap₂, ◌∙◌}
use native.Mathlib.Omega.{arith}
use Rattle.stretch.specs.Found.{source_of, and_found}
use Rattle.stretch.specs.Parting.{covers_of}
use Rattle.stretch.proofs.Counts.{both_ends, an_end_off, entry_there}
use Rattle.stretch.proofs.Halves.{parted_across, parted_covered, parted_halved}
use Rattle.stretch.proofs.Parting.{parted_half}
use Rattle.stretch.proofs.PartSplit.{entry_source}
use Rattle.stretch.proofs.+halved.Goals as goal

pub block_found-requires : goal.block_found-requires
block_found-requires t c =
    (c.requires, omega (arith, c.if-x-y.true), omega (arith, c.if-x-y.true, c.requires.some))

pub parted_at-middle-requires : goal.parted_at-middle-requires
parted_at-middle-requires t c =
    let p = c.requires in
    (omega (arith, c.if-x-y.false, p.some), omega (arith, p.within, p.few))

pub covers-requires : goal.covers-requires
covers-requires t c =
    let p = c.requires in
    let d = c.parted_at-middle.ensures in
    (parted_half d, omega (arith, d.behind, p.within, p.few), p.few)

-- below, `x`: where the blocks of the stretch part, and the node there
pub overflow_mul-m : goal.overflow_mul-m
overflow_mul-m t c =
    let a = c.args in
    let p = c.requires in
    let x = parted_across (source_of a.limits a.s.now a.index.now a.n) a.first a.last p.some p.within p.few _ _ c.parted_at-middle.ensures in
    record { fits = omega (arith, x.behind, c.ranges) }

pub overflow_sub-m : goal.overflow_sub-m
overflow_sub-m t c =
    let a = c.args in
    let p = c.requires in
    let x = parted_across (source_of a.limits a.s.now a.index.now a.n) a.first a.last p.some p.within p.few _ _ c.parted_at-middle.ensures in
    omega (arith, x.before)

pub overflow_sub-last : goal.overflow_sub-last
overflow_sub-last t c = omega (arith, c.requires.some)

pub entry_found-requires : goal.entry_found-requires
entry_found-requires t c =
    let a = c.args in
    let p = c.requires in
    let x = parted_across (source_of a.limits a.s.now a.index.now a.n) a.first a.last p.some p.within p.few _ _ c.parted_at-middle.ensures in
    (omega (arith, x.before, entry_there _ _ c.parted_at-middle.result.m p.long (omega (arith, x.behind, p.within))), omega (arith, x.behind, p.within, p.few))

pub returns-then-covers : goal.returns-then-covers
unfolding covers_of
returns-then-covers t c =
    let a = c.args in
    let p = c.requires in
    let q = source_of a.limits a.s.now a.index.now a.n in
    let d = c.parted_at-middle in
    let r = d.result in
    let e = both_ends a.first (256 * (r.m - r.h)) a.last (min (256 * (r.m + r.h)) a.n) (sym c.covers.ensures ∙ c.if-covers.true) in
    c.entry_found.ensures
    ∙ entry_source q (2 * r.m - 1) (a.last - a.first)
    ∙ sym (parted_covered q a.first a.last p.some p.within p.few r.m r.h d.ensures e.0 e.1)

pub overflow_mul-m-2 : goal.overflow_mul-m-2
overflow_mul-m-2 t c =
    let a = c.args in
    let p = c.requires in
    let x = parted_across (source_of a.limits a.s.now a.index.now a.n) a.first a.last p.some p.within p.few _ _ c.parted_at-middle.ensures in
    record { fits = omega (arith, x.behind, c.ranges) }

pub halved-left-requires : goal.halved-left-requires
halved-left-requires t c =
    let a = c.args in
    let p = c.requires in
    let x = parted_across (source_of a.limits a.s.now a.index.now a.n) a.first a.last p.some p.within p.few _ _ c.parted_at-middle.ensures in
    (omega (arith, x.before, x.behind, c.decreases), record { settings = p.settings; long = p.long; few = p.few; some = x.before; within = omega (arith, x.behind, p.within) })

pub overflow_mul-m-3 : goal.overflow_mul-m-3
overflow_mul-m-3 t c =
    let a = c.args in
    let p = c.requires in
    let x = parted_across (source_of a.limits a.s.now a.index.now a.n) a.first a.last p.some p.within p.few _ _ c.parted_at-middle.ensures in
    record { fits = omega (arith, x.behind, c.ranges) }

pub halved-right-requires : goal.halved-right-requires
halved-right-requires t c =
    let a = c.args in
    let p = c.requires in
    let x = parted_across (source_of a.limits a.s.now a.index.now a.n) a.first a.last p.some p.within p.few _ _ c.parted_at-middle.ensures in
    (omega (arith, x.before, x.behind, c.decreases), record { settings = p.settings; long = p.long; few = p.few; some = x.behind; within = p.within })

pub returns : goal.returns
unfolding covers_of
returns t c =
    let a = c.args in
    let p = c.requires in
    let q = source_of a.limits a.s.now a.index.now a.n in
    let d = c.parted_at-middle in
    let r = d.result in
    let x = parted_across q a.first a.last p.some p.within p.few r.m r.h d.ensures in
    let off =
    an_end_off a.first (256 * (r.m - r.h)) a.last (min (256 * (r.m + r.h)) a.n) (sym c.covers.ensures ∙ c.if-covers.false) x.from
    (omega (arith, x.to, d.ensures.half, p.within)) in
    c.and_found.ensures
    ∙ ap₂ and_found c.halved-left.ensures c.halved-right.ensures
    ∙ sym (parted_halved q a.first a.last p.some p.within p.few r.m r.h d.ensures off)
