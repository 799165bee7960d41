-- One charge after the other: the second shaper is none that the first charge touched.
-- Assumes nothing.
use mathlib.Core.List.{[], ◌∷◌}
use Rattle.credits.specs.declared.Which.TheVariants.{A, B, C, D}
use Rattle.credits.proofs.Charge.{permits_first, permits_rest}
use Rattle.credits.proofs.Credits.pay.Goals as goal

pub charge-requires : goal.charge-requires
charge-requires c = permits_first c.args.settings c.args.self A [] (rw c.in-ClassA.is at c.requires)

pub charge-left-requires : goal.charge-left-requires
charge-left-requires c = permits_first c.args.settings c.args.self B (D ∷ []) (rw c.in-ClassB.is at c.requires)

pub charge-requires-in-ClassB : goal.charge-requires-in-ClassB
charge-requires-in-ClassB c =
    let s = c.args.settings in
    let p = permits_rest s c.args.self B (D ∷ []) (rw c.in-ClassB.is at c.requires) in
    rw c.charge-left.ensures (permits_first s c.args.self D [] p)

pub charge-left-requires-in-Excess : goal.charge-left-requires-in-Excess
charge-left-requires-in-Excess c = permits_first c.args.settings c.args.self C (D ∷ []) (rw c.in-Excess.is at c.requires)

pub charge-requires-in-Excess : goal.charge-requires-in-Excess
charge-requires-in-Excess c =
    let s = c.args.settings in
    let p = permits_rest s c.args.self C (D ∷ []) (rw c.in-Excess.is at c.requires) in
    rw c.charge-left-in-Excess.ensures (permits_first s c.args.self D [] p)

pub returns-in-ClassA : goal.returns-in-ClassA
returns-in-ClassA c = rw c.in-ClassA.is c.charge.ensures

pub returns-in-ClassB : goal.returns-in-ClassB
returns-in-ClassB c = rw (c.in-ClassB.is, c.charge-in-ClassB.ensures, c.charge-left.ensures)

pub returns-in-Excess : goal.returns-in-Excess
returns-in-Excess c = rw (c.in-Excess.is, c.charge-in-Excess.ensures, c.charge-left-in-Excess.ensures)
