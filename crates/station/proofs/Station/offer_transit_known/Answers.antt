-- The rows are tried in their order: each return is one of them. A number that is cut is out of range as it was.
-- Assumes nothing.
use mathlib.Core.Bool.{true, false}
use mathlib.Core.Path.{sym, ap, ◌∙◌}
use Rattle.decide.specs.Test.{left, taken}
use Rattle.decide.specs.Hops.{in_ring}
use Rattle.queue.specs.Frame.{frame_ok}
use Rattle.flow.specs.Parts.{bounds_of}
use Rattle.flow.specs.Offer.{queue_for}
use Rattle.station.specs.Range.{station_ok}
use Rattle.station.specs.Offers.{given_frame, brought_of}
use Rattle.station.proofs.Offers.{cut_tested, cut_given, cut_ringed, cut_offered, offer_lost, offer_coded, offer_beyond, transit_brought}
use Rattle.std.proofs.lemmas.Result.{err_from_is_err_and}
use Rattle.std.proofs.lemmas.Bool.{not_from_false, not_from_true}
use Rattle.station.proofs.Station.offer_transit_known.Goals as goal

pub returns-then-not-good : goal.returns-then-not-good
returns-then-not-good c =
    let x = c.args in
    let st = x.self in
    rw c.into.ensures
    (sym
    (offer_lost st (queue_for st.settings x.class) (given_frame x.class x.size x.hops x.eligible)
    (taken (station_ok st) c.requires (not_from_false x.good c.if-not-good.true))))

pub returns-then-not-frame_ok : goal.returns-then-not-frame_ok
returns-then-not-frame_ok c =
    let x = c.args in
    let st = x.self in
    let q = c.frame_of-frame in
    -- the station is in range
    let in_range = left (station_ok st) c.requires (not_from_true x.good c.if-not-good.false) in
    let out = taken (frame_ok (bounds_of st.settings) q.result) c.frame_ok.ensures (not_from_false c.frame_ok.result c.if-not-frame_ok.true) in
    rw c.into-then-not-frame_ok.ensures
    (sym
    (offer_coded st (queue_for st.settings x.class) (given_frame x.class x.size x.hops x.eligible) in_range
    (cut_tested st in_range x.class x.size x.hops x.eligible q.result q.ensures false out)))

pub returns-then-not-in_ring : goal.returns-then-not-in_ring
returns-then-not-in_ring c =
    let x = c.args in
    let st = x.self in
    let q = c.frame_of-frame in
    -- the station is in range,
    let in_range = left (station_ok st) c.requires (not_from_true x.good c.if-not-good.false) in
    -- and so is the frame
    let frame_in_range = left (frame_ok (bounds_of st.settings) q.result) c.frame_ok.ensures (not_from_true c.frame_ok.result c.if-not-frame_ok.false) in
    -- as it was given
    let given_in_range = cut_tested st in_range x.class x.size x.hops x.eligible q.result q.ensures true frame_in_range in
    let out = taken (in_ring st.settings.site.stations q.result.hops) c.in_ring.ensures (not_from_false c.in_ring.result c.if-not-in_ring.true) in
    rw c.into-then-not-in_ring.ensures
    (sym
    (offer_beyond st (queue_for st.settings x.class) (given_frame x.class x.size x.hops x.eligible) in_range given_in_range
    (cut_ringed st in_range x.class x.size x.hops x.eligible q.result q.ensures frame_in_range false out)))

pub transit-requires : goal.transit-requires
transit-requires c =
    let x = c.args in
    let st = x.self in
    let q = c.frame_of-frame in
    let in_range = left (station_ok st) c.requires (not_from_true x.good c.if-not-good.false) in
    let frame_in_range = left (frame_ok (bounds_of st.settings) q.result) c.frame_ok.ensures (not_from_true c.frame_ok.result c.if-not-frame_ok.false) in
    let within = left (in_ring st.settings.site.stations q.result.hops) c.in_ring.ensures (not_from_true c.in_ring.result c.if-not-in_ring.false) in
    -- its hops are within the ring
    let hops_in_ring = cut_ringed st in_range x.class x.size x.hops x.eligible q.result q.ensures frame_in_range true within in
    rw (cut_given st in_range x.class x.size x.hops x.eligible q.result q.ensures frame_in_range)
    (cut_offered st in_range x.class x.size x.hops x.eligible q.result q.ensures frame_in_range hops_in_ring)

pub returns-in_err-transit : goal.returns-in_err-transit
returns-in_err-transit c =
    let x = c.args in
    let st = x.self in
    let q = c.frame_of-frame in
    let in_range = left (station_ok st) c.requires (not_from_true x.good c.if-not-good.false) in
    let frame_in_range = left (frame_ok (bounds_of st.settings) q.result) c.frame_ok.ensures (not_from_true c.frame_ok.result c.if-not-frame_ok.false) in
    let within = left (in_ring st.settings.site.stations q.result.hops) c.in_ring.ensures (not_from_true c.in_ring.result c.if-not-in_ring.false) in
    let hops_in_ring = cut_ringed st in_range x.class x.size x.hops x.eligible q.result q.ensures frame_in_range true within in
    let back = err_from_is_err_and c.from_residual.result c.from_residual.ensures.1 in
    rw (back.1, back.2)
    (ap (brought_of st) (sym c.in_err-transit.was ∙ c.transit.ensures)
    ∙ transit_brought st in_range x.class x.size x.hops x.eligible q.result q.ensures frame_in_range hops_in_ring)

pub returns : goal.returns
returns c =
    let x = c.args in
    let st = x.self in
    let q = c.frame_of-frame in
    let in_range = left (station_ok st) c.requires (not_from_true x.good c.if-not-good.false) in
    let frame_in_range = left (frame_ok (bounds_of st.settings) q.result) c.frame_ok.ensures (not_from_true c.frame_ok.result c.if-not-frame_ok.false) in
    let within = left (in_ring st.settings.site.stations q.result.hops) c.in_ring.ensures (not_from_true c.in_ring.result c.if-not-in_ring.false) in
    let hops_in_ring = cut_ringed st in_range x.class x.size x.hops x.eligible q.result q.ensures frame_in_range true within in
    rw c.with_flow.ensures
    (ap (brought_of st) (sym c.in_ok-transit.was ∙ c.transit.ensures)
    ∙ transit_brought st in_range x.class x.size x.hops x.eligible q.result q.ensures frame_in_range hops_in_ring)
