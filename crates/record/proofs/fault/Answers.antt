-- Each return is a row of the fields' faults, by the comparisons that led there.
-- Assumes nothing.
use mathlib.Core.Path.{sym, ap}
use native.Mathlib.Omega.{arith}
use Rattle.record.specs.Step.{passed}
use Rattle.record.proofs.Fields.{fields_length, fields_below, fields_above, fields_tick, fields_small, fields_large, fields_send}
use Rattle.record.proofs.fault.Goals as goal

pub returns-then-length-ne6 : goal.returns-then-length-ne6
returns-then-length-ne6 c = ap passed (sym (fields_length _ _ _ _ c.if-length-ne6.true))

pub returns-then-kind-lt1 : goal.returns-then-kind-lt1
returns-then-kind-lt1 c = ap passed (sym (fields_below _ _ _ _ (omega arith) (omega arith)))

pub returns-then-kind-gt3 : goal.returns-then-kind-gt3
returns-then-kind-gt3 c = ap passed (sym (fields_above _ _ _ _ (omega arith) (omega arith)))

pub returns-then-kind-ne3 : goal.returns-then-kind-ne3
returns-then-kind-ne3 c = ap passed (sym (fields_tick _ _ _ _ (omega arith) (omega arith) (omega arith)))

pub returns-then-number-lt-MIN_SIZE : goal.returns-then-number-lt-MIN_SIZE
returns-then-number-lt-MIN_SIZE c = ap passed (sym (fields_small _ _ _ _ (omega arith) (omega arith) (omega arith)))

pub returns-then-mtu-number : goal.returns-then-mtu-number
returns-then-mtu-number c = ap passed (sym (fields_large _ _ _ _ (omega arith) (omega arith) (omega arith)))

pub returns : goal.returns
returns c = ap passed (sym (fields_send _ _ _ _ (omega arith) (omega arith) (omega arith) (omega arith)))
