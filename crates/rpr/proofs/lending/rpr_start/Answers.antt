-- A slice of another length is 2, settings out of range are 1; else the fresh station is written.
-- Assumes nothing.
use mathlib.Core.Path.{ap, ◌∙◌}
use Rattle.decide.specs.Test.{left, taken}
use Rattle.settings.specs.Range.{settings_ok}
use Rattle.layout.specs.Layout.{station_bytes}
use Rattle.rpr.specs.Station.{start_answer, start_after}
use Rattle.rpr.proofs.Given.{not_whole, then_not_whole, start_refused_lem, start_done}
use Rattle.std.proofs.lemmas.Bool.{not_from_false, not_from_true}
use Rattle.rpr.proofs.lending.rpr_start.Goals as goal

pub returns-then-settings-ne-LENGTH : goal.returns-then-settings-ne-LENGTH
unfolding start_answer start_after
returns-then-settings-ne-LENGTH c = let given : _ = c.args in
    let gives = not_whole _ given.settings.now _ _ _ _ c.if-settings-ne-LENGTH.true in
    record { value = gives.0; station_after = gives.1 }

pub returns-then-station-ne-LENGTH : goal.returns-then-station-ne-LENGTH
unfolding start_answer start_after
returns-then-station-ne-LENGTH c =
    let given : _ = c.args in
    let gives = then_not_whole _ given.station.now _ _ _ _ _ given.settings.now c.if-settings-ne-LENGTH.false c.if-station-ne-LENGTH.true in
    record { value = gives.0; station_after = gives.1 }

pub returns-then-not-in_range_at : goal.returns-then-not-in_range_at
unfolding start_answer start_after
returns-then-not-in_range_at c =
    let given : _ = c.args in
    let out = taken (settings_ok _) c.in_range_at.ensures (not_from_false _ c.if-not-in_range_at.true) in
    let gives = start_refused_lem given.settings.now given.station.now c.if-settings-ne-LENGTH.false c.if-station-ne-LENGTH.false _ out in
    record { value = gives.0; station_after = gives.1 }

pub returns : goal.returns
unfolding start_answer start_after
returns c =
    let given : _ = c.args in
    let fits = left (settings_ok _) c.in_range_at.ensures (not_from_true _ c.if-not-in_range_at.false) in
    let gives = start_done given.settings.now given.station.now c.if-settings-ne-LENGTH.false c.if-station-ne-LENGTH.false _ fits in
    let fresh = rw c.read-given.ensures at c.fresh.ensures in record { value = gives.0; station_after = c.write.ensures ∙ ap station_bytes fresh ∙ gives.1 }
