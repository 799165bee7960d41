-- Each arm asks the shapers that its way needs.
-- Assumes nothing.
use mathlib.Core.Path.{sym}
use Rattle.credits.specs.declared.Which.TheVariants.{A}
use Rattle.credits.proofs.Short.{short_one}
use Rattle.credits.proofs.Credits.short_all.Goals as goal

pub returns-in-ClassA : goal.returns-in-ClassA
returns-in-ClassA c =
    let x = c.args in
    rw (c.in-ClassA.is, c.short.ensures) (sym (short_one x.settings x.self A))

pub returns-in-ClassB : goal.returns-in-ClassB
returns-in-ClassB c = rw c.in-ClassB.is c.short_of_two.ensures

pub returns-in-Excess : goal.returns-in-Excess
returns-in-Excess c = rw c.in-Excess.is c.short_of_two-in-Excess.ensures
