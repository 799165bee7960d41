-- A slice of another length is 2; else what the station said is handed back: a refusal alone, or the queue of the class written.
-- Assumes nothing.
use mathlib.Core.Path.{ap, ◌∙◌}
use Rattle.flow.specs.declared.Line.{Line}
use Rattle.flow.specs.Offer.{queue_for}
use Rattle.station.specs.declared.Station.{Station}
use Rattle.station.specs.Offers.{given_frame}
use Rattle.layout.specs.Layout.{station_at, pushed_at}
use Rattle.rpr.specs.Station.{offer_transit_answer, offer_transit_after}
use Rattle.rpr.proofs.Given.{not_whole, range_known}
use Rattle.rpr.proofs.Written.{done_refused, done_carried, offer_written}
use borrow.Author.Rules.{rules}
use Rattle.rpr.proofs.lending.rpr_offer_transit.Goals as goal

pub returns-then-station-ne-LENGTH : goal.returns-then-station-ne-LENGTH
unfolding offer_transit_answer offer_transit_after
returns-then-station-ne-LENGTH c = let xs = c.args.station.now in
    let gives = not_whole _ xs _ _ _ _ c.if-station-ne-LENGTH.true in
    record { value = gives.0; station_after = gives.1 }

pub offer_transit_known-requires : goal.offer_transit_known-requires
offer_transit_known-requires c = range_known _ _ c.in_range-good.ensures c.read-held.ensures

pub returns-in-Err : goal.returns-in-Err
unfolding offer_transit_answer offer_transit_after
returns-in-Err c =
    let said = rw c.read-held.ensures at c.offer_transit_known.ensures in
    let gives = done_refused c.args.station.now _ c.if-station-ne-LENGTH.false _ _ said _ c.in-Err.is in
    record { value = c.number.ensures ∙ gives.0; station_after = gives.1 }

pub returns-in-Ok : goal.returns-in-Ok
unfolding offer_transit_answer offer_transit_after
returns-in-Ok c =
    let a : _ = c.args in
    let xs : _ = a.station.now in
    let l : _ = queue_for (station_at xs).settings a.class in
    let x : _ = given_frame a.class a.size a.hops a.eligible in
    let said = rw c.read-held.ensures at c.offer_transit_known.ensures in
    let there = c.push_frame.ensures ∙ ap (λ (m : Line). pushed_at xs m x) (rw c.read-held.ensures at c.queue_for-line.ensures) in
    let gives = done_carried xs _ c.if-station-ne-LENGTH.false _ _ said _ c.in-Ok.is (λ (st : Station). pushed_at xs l x)
    (offer_written xs (λ j. search rules) c.if-station-ne-LENGTH.false l x) there in
    record { value = gives.0; station_after = gives.1 }
