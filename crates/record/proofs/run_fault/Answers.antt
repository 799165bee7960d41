-- Each return is a row of a run's faults, by the comparisons that led there.
-- Assumes nothing.
use mathlib.Core.Path.{sym, ap}
use native.Mathlib.Omega.{arith}
use Rattle.record.specs.Step.{passed}
use Rattle.record.proofs.Fields.{run_length, run_below, run_above, run_few, run_good}
use Rattle.record.proofs.run_fault.Goals as goal

pub returns-then-length-ne10 : goal.returns-then-length-ne10
returns-then-length-ne10 c = ap passed (sym (run_length _ _ _ c.if-length-ne10.true))

pub returns-then-tick-lt1 : goal.returns-then-tick-lt1
returns-then-tick-lt1 c = ap passed (sym (run_below _ _ _ (omega arith) (omega arith)))

pub returns-then-tick-gt2 : goal.returns-then-tick-gt2
returns-then-tick-gt2 c = ap passed (sym (run_above _ _ _ (omega arith) (omega arith)))

pub returns-then-count-lt2 : goal.returns-then-count-lt2
returns-then-count-lt2 c = ap passed (sym (run_few _ _ _ (omega arith) (omega arith) (omega arith) (omega arith)))

pub returns : goal.returns
returns c = ap passed (sym (run_good _ _ _ (omega arith) (omega arith) (omega arith) (omega arith)))
