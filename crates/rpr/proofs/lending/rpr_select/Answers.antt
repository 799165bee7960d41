-- A slice of another length is 2, a station out of range is 1; else what is picked is answered, and what the frame changed as it left is written.
-- Assumes nothing.
use Rattle.decide.specs.Test.{left, taken}
use Rattle.station.specs.Range.{station_ok}
use Rattle.layout.specs.Layout.{station_at, station_bytes}
use Rattle.layout.proofs.Round.{bytes_of_state}
use Rattle.rpr.specs.Station.{select_answer, select_after}
use mathlib.Core.Path.{sym, ap, ◌∙◌}
use Rattle.rpr.proofs.Given.{not_whole, select_refused, select_given}
use Rattle.rpr.proofs.Chosen.{nothing_chosen}
use Rattle.rpr.proofs.Written.{select_written}
use Rattle.std.proofs.lemmas.Bool.{not_from_false, not_from_true}
use borrow.Author.Rules.{rules}
use Rattle.rpr.proofs.lending.rpr_select.Goals as goal

pub returns-then-station-ne-LENGTH : goal.returns-then-station-ne-LENGTH
unfolding select_answer select_after
returns-then-station-ne-LENGTH c = let xs = c.args.station.now in
    let gives = not_whole _ xs _ _ _ _ c.if-station-ne-LENGTH.true in
    record { value = gives.0; station_after = gives.1 }

pub returns-then-not-in_range : goal.returns-then-not-in_range
unfolding select_answer select_after
returns-then-not-in_range c =
    let xs : _ = c.args.station.now in
    let out = taken (station_ok _) c.in_range.ensures (not_from_false _ c.if-not-in_range.true) in
    let gives = select_refused xs c.if-station-ne-LENGTH.false (station_at xs) _ _ out in
    record { value = gives.0; station_after = gives.1 }

pub returns-then-out-eq0 : goal.returns-then-out-eq0
unfolding select_answer select_after
returns-then-out-eq0 c =
    let xs : _ = c.args.station.now in
    let o = left (station_ok _) c.in_range.ensures (not_from_true _ c.if-not-in_range.false) in
    let none = nothing_chosen (station_at xs) o (rw c.pick-out.ensures at c.if-out-eq0.true) in
    let gives = select_given xs c.if-station-ne-LENGTH.false (station_at xs) _ _ o none.0
    (sym (bytes_of_state xs (λ j. search rules) c.if-station-ne-LENGTH.false) ∙ ap station_bytes none.1) in
    record { value = gives.0; station_after = gives.1 }

pub returns : goal.returns
unfolding select_answer select_after
returns c =
    let xs : _ = c.args.station.now in
    let said = c.pick-out.ensures in
    let all = rw (c.write_stage.ensures, c.write_credits.ensures, c.take_frame.ensures) at c.write_counters.ensures in
    let gives = select_given xs c.if-station-ne-LENGTH.false (station_at xs) _ _ (left (station_ok _) c.in_range.ensures (not_from_true _ c.if-not-in_range.false))
    (rw said at c.selected.ensures)
    (rw said at all ∙ select_written xs (λ j. search rules) c.if-station-ne-LENGTH.false) in
    record { value = gives.0; station_after = gives.1 }
