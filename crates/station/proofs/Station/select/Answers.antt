-- The rows are tried in their order: each return is one of them.
-- Assumes nothing.
use mathlib.Core.Path.{sym}
use Rattle.decide.specs.Test.{left, taken}
use Rattle.station.specs.Range.{station_ok}
use Rattle.station.proofs.Calls.{select_lost, select_done}
use Rattle.std.proofs.lemmas.Bool.{not_from_false, not_from_true}
use Rattle.station.proofs.Station.select.Goals as goal

pub returns-then-not-in_range : goal.returns-then-not-in_range
returns-then-not-in_range c = let st = c.args.self in
    rw c.into.ensures
    (sym (select_lost st (taken (station_ok st) c.in_range.ensures (not_from_false c.in_range.result c.if-not-in_range.true))))

pub returns : goal.returns
returns c = let st = c.args.self in
    rw c.chosen.ensures (sym (select_done st (left (station_ok st) c.in_range.ensures (not_from_true c.in_range.result c.if-not-in_range.false))))
