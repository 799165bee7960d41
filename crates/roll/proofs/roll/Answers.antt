-- The summary tells that the record is read whole, or refuses; whether the output fits is asked before it is written.
-- Assumes nothing.
use Rattle.std.specs.Prelude.{Ok}
use mathlib.Core.Bool.{false}
use mathlib.Core.Path.{sym, ap, ◌∙◌}
use borrow.Author.Rules.{rules}
use borrow.Author.Tests.{leb-true, leb-false}
use Rattle.roll.proofs.Told.{summed, told_short, told_written, roll_refused, roll_output}
use Rattle.roll.proofs.roll.Goals as goal

pub fits_in-requires : goal.fits_in-requires
fits_in-requires c =
    let known = summed false c.args.s.now _ (λ j. (c.type_inv.s j).fits) (sym c.summarize.ensures ∙ c.in_ok-sum.was) in
    record { limits = _; under = known.reads }

pub returns-then-not-fits_in : goal.returns-then-not-fits_in
returns-then-not-fits_in c =
    let a = c.args in
    let known = summed false a.s.now _ (λ j. (c.type_inv.s j).fits) (sym c.summarize.ensures ∙ c.in_ok-sum.was) in
    let r = told_short _ a.room.now _ (roll_output a.s.now _ known.reads) (leb-false _ _ (sym c.fits_in.ensures ∙ c.if-not-fits_in.true)) in
    record { value = sym r.0; room_after = sym r.1 }

pub put_rolled-requires : goal.put_rolled-requires
put_rolled-requires c =
    let known = summed false c.args.s.now _ (λ j. (c.type_inv.s j).fits) (sym c.summarize.ensures ∙ c.in_ok-sum.was) in
    (known.reads, leb-true _ _ (sym c.fits_in.ensures ∙ c.if-not-fits_in.false))

pub returns : goal.returns
returns c =
    let a = c.args in
    let known = summed false a.s.now _ (λ j. (c.type_inv.s j).fits) (sym c.summarize.ensures ∙ c.in_ok-sum.was) in
    let r = told_written _ a.room.now _ (roll_output a.s.now _ known.reads) (leb-true _ _ (sym c.fits_in.ensures ∙ c.if-not-fits_in.false)) in
    record { value = ap Ok c.put_rolled.ensures.value ∙ sym r.0; room_after = c.put_rolled.ensures.room_after ∙ sym r.1 }

pub returns-in_err-sum : goal.returns-in_err-sum
returns-in_err-sum c =
    let a = c.args in
    let r = roll_refused a.s.now _ a.room.now (sym c.summarize.ensures ∙ c.in_err-sum.was) in
    record { value = rw r.0 (search rules); room_after = sym r.1 }
