-- A slice of another length is 2; else what the station said is handed back: a refusal alone, or the fairness state written.
-- Assumes nothing.
use mathlib.Core.Path.{◌∙◌}
use Rattle.station.specs.declared.Station.{Station}
use Rattle.rpr.specs.Station.{age_answer, age_after}
use Rattle.rpr.proofs.Given.{not_whole, range_known}
use Rattle.rpr.proofs.Written.{done_refused, done_carried, fair_in, fair_written}
use borrow.Author.Rules.{rules}
use Rattle.rpr.proofs.lending.rpr_age.Goals as goal

pub returns-then-station-ne-LENGTH : goal.returns-then-station-ne-LENGTH
unfolding age_answer age_after
returns-then-station-ne-LENGTH c = let xs = c.args.station.now in
    let gives = not_whole _ xs _ _ _ _ c.if-station-ne-LENGTH.true in
    record { value = gives.0; station_after = gives.1 }

pub age_known-requires : goal.age_known-requires
age_known-requires c = range_known _ _ c.in_range-good.ensures c.read.ensures

pub returns-in-Err : goal.returns-in-Err
unfolding age_answer age_after
returns-in-Err c =
    let said = rw c.read.ensures at c.age_known.ensures in
    let gives = done_refused c.args.station.now _ c.if-station-ne-LENGTH.false _ _ said _ c.in-Err.is in
    record { value = c.number.ensures ∙ gives.0; station_after = gives.1 }

pub returns-in-Ok : goal.returns-in-Ok
unfolding age_answer age_after
returns-in-Ok c =
    let xs : _ = c.args.station.now in
    let said = rw c.read.ensures at c.age_known.ensures in
    let gives = done_carried xs _ c.if-station-ne-LENGTH.false _ _ said _ c.in-Ok.is (λ (st : Station). fair_in xs st.fair)
    (λ z. fair_written xs (λ j. search rules) c.if-station-ne-LENGTH.false _) c.write_fair.ensures in
    record { value = gives.0; station_after = gives.1 }
