-- Each return is a row of what stands at a place: of an event, or of what has another kind.
-- Assumes nothing.
use Rattle.std.specs.Prelude.{Ok, Err}
use mathlib.Core.Bool.{false, ◌&&◌, and-false}
use mathlib.Core.Path.{◌≡◌, refl, sym, ◌∙◌}
use native.Mathlib.Omega.{arith}
use borrow.Author.Rules.{rules}
use lib.ListN.{drop}
use Rattle.record.specs.Read.{is_run}
use Rattle.record.specs.Step.{passed}
use Rattle.record.proofs.Rows.{fault_at, run_not_at, item_end, item_short, event_refused, passed_free, event_stands}
use Rattle.record.proofs.event_at.Goals as goal

pub returns-then-s-at : goal.returns-then-s-at
returns-then-s-at c = sym (item_end _ _ _ _ c.if-s-at.true)

pub returns-then-s-at-lt6 : goal.returns-then-s-at-lt6
returns-then-s-at-lt6 c = sym (item_short _ _ _ _ (omega arith) (omega arith))

pub other_at-requires : goal.other_at-requires
other_at-requires c = (omega arith, c.get16-kind.ensures, omega arith)

pub returns-then-kind-gt-SEND : goal.returns-then-kind-gt-SEND
returns-then-kind-gt-SEND c = c.other_at.ensures

pub returns-in_err-fault : goal.returns-in_err-fault
returns-in_err-fault c =
    let a = c.args in
    let k = c.get16-kind.ensures in
    let r : (a.runs && is_run (drop a.at a.s.now)) ≡ false = rw (run_not_at a.s.now a.at (λ e. omega arith)) (and-false a.runs) in
    let p : passed (fault_at a.mtu a.s.now a.at) ≡ Err c.in_err-fault.field-0.0 =
    rw (← c.get16-length.ensures, ← c.get16-kind.ensures, ← c.get16-number.ensures) (sym c.fault.ensures ∙ c.in_err-fault.was) in
    rw (event_refused a.runs a.mtu a.s.now a.at r _ _ (omega arith) refl p) (search rules)

pub returns : goal.returns
returns c =
    let a = c.args in
    let p : passed (fault_at a.mtu a.s.now a.at) ≡ Ok tt =
    rw (← c.get16-length.ensures, ← c.get16-kind.ensures, ← c.get16-number.ensures) (sym c.fault.ensures ∙ c.in_ok-fault.was) in
    rw (c.get16-kind.ensures, c.get16-number.ensures, c.get16-length.ensures)
    (sym (event_stands a.runs a.mtu a.s.now a.at (omega arith) (passed_free _ p)))
