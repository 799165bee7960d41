-- A slice of another length is 2; else what the station said is handed back: a refusal alone, or the control queue written.
-- Assumes nothing.
use mathlib.Core.Path.{◌∙◌}
use Rattle.flow.specs.declared.Line.TheVariants.{Control}
use Rattle.flow.specs.Offer.{control_frame}
use Rattle.station.specs.declared.Station.{Station}
use Rattle.layout.specs.Layout.{pushed_at}
use Rattle.rpr.specs.Station.{offer_control_answer, offer_control_after}
use Rattle.rpr.proofs.Given.{not_whole, range_known}
use Rattle.rpr.proofs.Written.{done_refused, done_carried, offer_written}
use borrow.Author.Rules.{rules}
use Rattle.rpr.proofs.lending.rpr_offer_control.Goals as goal

pub returns-then-station-ne-LENGTH : goal.returns-then-station-ne-LENGTH
unfolding offer_control_answer offer_control_after
returns-then-station-ne-LENGTH c = let xs = c.args.station.now in
    let gives = not_whole _ xs _ _ _ _ c.if-station-ne-LENGTH.true in
    record { value = gives.0; station_after = gives.1 }

pub offer_control_known-requires : goal.offer_control_known-requires
offer_control_known-requires c = range_known _ _ c.in_range-good.ensures c.read.ensures

pub returns-in-Err : goal.returns-in-Err
unfolding offer_control_answer offer_control_after
returns-in-Err c =
    let said = rw c.read.ensures at c.offer_control_known.ensures in
    let gives = done_refused c.args.station.now _ c.if-station-ne-LENGTH.false _ _ said _ c.in-Err.is in
    record { value = c.number.ensures ∙ gives.0; station_after = gives.1 }

pub returns-in-Ok : goal.returns-in-Ok
unfolding offer_control_answer offer_control_after
returns-in-Ok c =
    let a : _ = c.args in
    let xs : _ = a.station.now in
    let said = rw c.read.ensures at c.offer_control_known.ensures in
    let gives = done_carried xs _ c.if-station-ne-LENGTH.false _ _ said _ c.in-Ok.is (λ (st : Station). pushed_at xs Control (control_frame a.size))
    (offer_written xs (λ j. search rules) c.if-station-ne-LENGTH.false Control (control_frame a.size)) c.push_frame.ensures in
    record { value = gives.0; station_after = gives.1 }
