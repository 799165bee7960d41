-- The one row is tried: each return is one of its cases.
-- Assumes nothing.
use mathlib.Core.Path.{sym}
use Rattle.decide.specs.Test.{left, taken}
use Rattle.settings.specs.Range.{settings_ok}
use Rattle.station.proofs.Calls.{start_refused_lem, start_done}
use Rattle.std.proofs.lemmas.Bool.{not_from_false, not_from_true}
use Rattle.station.proofs.Station.start.Goals as goal

pub returns-then-not-in_range : goal.returns-then-not-in_range
returns-then-not-in_range c = let x = c.args in
    rw c.into.ensures
    (sym (start_refused_lem x.self x.settings (taken (settings_ok x.settings) c.in_range.ensures (not_from_false c.in_range.result c.if-not-in_range.true))))

pub returns : goal.returns
returns c = let x = c.args in
    rw c.fresh.ensures (sym (start_done x.self x.settings (left (settings_ok x.settings) c.in_range.ensures (not_from_true c.in_range.result c.if-not-in_range.false))))
