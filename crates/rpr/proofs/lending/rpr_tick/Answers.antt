-- A slice of another length is 2; else what the station said is handed back: a refusal alone, or the credits written.
-- Assumes nothing.
use mathlib.Core.Path.{◌∙◌}
use Rattle.station.specs.declared.Station.{Station}
use Rattle.rpr.specs.Station.{tick_answer, tick_after}
use Rattle.rpr.proofs.Given.{not_whole, range_known}
use Rattle.rpr.proofs.Written.{done_refused, done_carried, credits_in, tick_written}
use borrow.Author.Rules.{rules}
use Rattle.rpr.proofs.lending.rpr_tick.Goals as goal

pub returns-then-station-ne-LENGTH : goal.returns-then-station-ne-LENGTH
unfolding tick_answer tick_after
returns-then-station-ne-LENGTH c = let xs = c.args.station.now in
    let gives = not_whole _ xs _ _ _ _ c.if-station-ne-LENGTH.true in
    record { value = gives.0; station_after = gives.1 }

pub tick_known-requires : goal.tick_known-requires
tick_known-requires c = range_known _ _ c.in_range-good.ensures c.read.ensures

pub returns-in-Err : goal.returns-in-Err
unfolding tick_answer tick_after
returns-in-Err c =
    let said = rw c.read.ensures at c.tick_known.ensures in
    let gives = done_refused c.args.station.now _ c.if-station-ne-LENGTH.false _ _ said _ c.in-Err.is in
    record { value = c.number.ensures ∙ gives.0; station_after = gives.1 }

pub returns-in-Ok : goal.returns-in-Ok
unfolding tick_answer tick_after
returns-in-Ok c =
    let xs : _ = c.args.station.now in
    let said = rw c.read.ensures at c.tick_known.ensures in
    let gives = done_carried xs _ c.if-station-ne-LENGTH.false _ _ said _ c.in-Ok.is (λ (st : Station). credits_in xs st.flow)
    (λ z. tick_written xs (λ j. search rules) c.if-station-ne-LENGTH.false _ _ _) c.write_credits.ensures in
    record { value = gives.0; station_after = gives.1 }
