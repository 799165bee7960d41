-- All of the block is its entry; part of it is read.
-- Assumes nothing.
use Prim.Native.Nat.{◌-◌, ◌*◌}
use mathlib.Core.Path.{sym, ◌∙◌}
use mathlib.Core.Logic.{inl, inr}
use native.Mathlib.Omega.{arith}
use Rattle.decide.proofs.Cases.{by_cases}
use Rattle.index.proofs.Sizes.{size_block}
use Rattle.stretch.specs.Found.{source_of}
use Rattle.stretch.proofs.Counts.{both_ends, an_end_off, entry_there}
use Rattle.stretch.proofs.Halves.{block_whole, block_part}
use Rattle.stretch.proofs.PartSplit.{entry_source, part_source}
use Rattle.stretch.proofs.parts.block_found.Goals as goal

pub entry_found-requires : goal.entry_found-requires
entry_found-requires c =
    (omega (arith, entry_there _ _ c.args.x c.requires.0.long (omega (arith, c.requires.0.some, c.requires.0.within, c.requires.1))), omega (arith, c.requires))

pub returns-then-first-from : goal.returns-then-first-from
returns-then-first-from c =
    let a = c.args in
    let q = source_of a.limits a.s.now a.index.now a.n in
    let p = c.requires.0 in
    let e = both_ends a.first (256 * a.x) a.last c.lesser.result c.if-first-from.true in
    c.entry_found.ensures
    ∙ entry_source q (2 * a.x) (a.last - a.first)
    ∙ sym (block_whole q a.first a.last p.some p.within p.few a.x c.requires.1 c.requires.2 e.0 (omega (arith, size_block, e.1, c.lesser.ensures)))

pub part_found-requires : goal.part_found-requires
part_found-requires c =
    let p = c.requires.0 in
    (p.settings, entry_there _ _ c.args.x p.long (omega (arith, p.some, p.within, c.requires.1)), omega (arith, p.some, p.within, p.few, c.requires.1), omega (arith, p.some), omega (arith, c.requires.2))

pub returns : goal.returns
returns c =
    let a = c.args in
    let q = source_of a.limits a.s.now a.index.now a.n in
    let p = c.requires.0 in
    let to = c.lesser.ensures in
    let off = an_end_off a.first (256 * a.x) a.last c.lesser.result c.if-first-from.false c.requires.1 (omega (arith, to, p.within, c.requires.2)) in
    c.part_found.ensures
    ∙ part_source q a.x (a.first - 256 * a.x) (a.last - 256 * a.x)
    ∙ sym (block_part q a.first a.last p.some p.within p.few a.x c.requires.1 c.requires.2 (by_cases off (λ f. inl f) (λ t. inr (omega (arith, size_block, to)))))
