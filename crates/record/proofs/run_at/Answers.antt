-- Each return is a row of the run that stands at the place.
-- Assumes nothing.
use Rattle.std.specs.Prelude.{Ok, Err}
use mathlib.Core.Path.{◌≡◌, refl, sym, ◌∙◌}
use native.Mathlib.Omega.{arith}
use borrow.Author.Rules.{rules}
use Rattle.record.specs.Step.{passed}
use Rattle.record.proofs.Rows.{run_at, run_short, run_fault_at, run_refused, passed_free, run_stands}
use Rattle.record.proofs.run_at.Goals as goal

pub returns-then-s-at-lt10 : goal.returns-then-s-at-lt10
returns-then-s-at-lt10 c =
    sym (run_short _ _ _ _ (run_at _ _ c.requires.1) (omega arith) (omega arith))

pub returns-in_err-run_fault : goal.returns-in_err-run_fault
returns-in_err-run_fault c =
    let a = c.args in
    let p : passed (run_fault_at a.s.now a.at) ≡ Err c.in_err-run_fault.field-0.0 =
    rw (← c.get16-length.ensures, ← c.get16-tick.ensures, ← c.get16-count.ensures) (sym c.run_fault.ensures ∙ c.in_err-run_fault.was) in
    rw (run_refused _ a.mtu a.s.now a.at (run_at _ _ c.requires.1) _ _ (omega arith) refl p) (search rules)

pub returns : goal.returns
returns c =
    let a = c.args in
    let r = run_at a.s.now a.at c.requires.1 in
    let p : passed (run_fault_at a.s.now a.at) ≡ Ok tt =
    rw (← c.get16-length.ensures, ← c.get16-tick.ensures, ← c.get16-count.ensures) (sym c.run_fault.ensures ∙ c.in_ok-run_fault.was) in
    rw (c.get16-count.ensures, c.get16-amount.ensures, c.get16-tick.ensures, c.get16-length.ensures)
    (sym (run_stands _ a.mtu a.s.now a.at r r (omega arith) (passed_free _ p)))
