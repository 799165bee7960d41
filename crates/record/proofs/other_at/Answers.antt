-- A run where runs may stand; of an event, a kind above 3 is a fault.
-- Assumes nothing.
use mathlib.Core.Bool.{true, false, ◌&&◌}
use mathlib.Core.Path.{◌≡◌, sym, ◌∙◌}
use native.Mathlib.Omega.{arith}
use borrow.Author.Tests.{eqb-true}
use lib.Dec.{eqb}
use lib.ListN.{drop}
use Rattle.decide.specs.Test.{both}
use Rattle.record.specs.Read.{is_run}
use Rattle.record.proofs.Fields.{fields_other}
use Rattle.record.proofs.Rows.{run_flag, event_faulty}
use Rattle.record.proofs.other_at.Goals as goal

pub run_at-requires : goal.run_at-requires
run_at-requires c =
    let k = eqb-true c.args.kind 4 (both c.args.runs (eqb c.args.kind 4) c.if-runs-kind.true).1 in
    (c.requires.0, sym c.requires.1 ∙ k)

pub returns-then-runs-kind : goal.returns-then-runs-kind
returns-then-runs-kind c =
    let r : c.args.runs ≡ true = (both c.args.runs (eqb c.args.kind 4) c.if-runs-kind.true).0 in
    c.run_at.ensures ∙ rw r

pub returns : goal.returns
returns c =
    let a = c.args in
    let r : (a.runs && is_run (drop a.at a.s.now)) ≡ false = rw (run_flag a.s.now a.at, ← c.requires.1) c.if-runs-kind.false in
    sym (event_faulty a.runs a.mtu a.s.now a.at r 2 c.requires.0 (fields_other a.mtu _ _ _ (rw c.requires.1 at c.requires.2)) (λ z. omega arith))
