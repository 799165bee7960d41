-- The rows are tried in their order: each return is one of them. A number that is cut is out of range as it was.
-- Assumes nothing.
use mathlib.Core.Bool.{false}
use mathlib.Core.Path.{sym, ap, ◌∙◌}
use Rattle.decide.specs.Test.{left, taken}
use Rattle.queue.specs.Frame.{frame_ok}
use Rattle.flow.specs.Parts.{bounds_of}
use Rattle.flow.specs.declared.Line.TheVariants.{Control}
use Rattle.flow.specs.Offer.{control_frame}
use Rattle.station.specs.Range.{station_ok}
use Rattle.station.specs.Offers.{brought_of}
use Rattle.station.proofs.Offers.{cut_tested, cut_given, cut_offered, control_ringed, offer_lost, offer_coded, control_brought}
use Rattle.std.proofs.lemmas.Result.{err_from_is_err_and}
use Rattle.std.proofs.lemmas.Bool.{not_from_false, not_from_true}
use Rattle.station.proofs.Station.offer_control_known.Goals as goal

pub returns-then-not-good : goal.returns-then-not-good
returns-then-not-good c =
    let x = c.args in
    let st = x.self in
    rw c.into.ensures
    (sym (offer_lost st Control (control_frame x.size) (taken (station_ok st) c.requires (not_from_false x.good c.if-not-good.true))))

pub returns-then-not-frame_ok : goal.returns-then-not-frame_ok
returns-then-not-frame_ok c =
    let x = c.args in
    let st = x.self in
    let q = c.frame_of-frame in
    -- the station is in range
    let in_range = left (station_ok st) c.requires (not_from_true x.good c.if-not-good.false) in
    let out = taken (frame_ok (bounds_of st.settings) q.result) c.frame_ok.ensures (not_from_false c.frame_ok.result c.if-not-frame_ok.true) in
    rw c.into-then-not-frame_ok.ensures
    (sym (offer_coded st Control (control_frame x.size) in_range (cut_tested st in_range 0 x.size 1 0 q.result q.ensures false out)))

pub control-requires : goal.control-requires
control-requires c =
    let x = c.args in
    let st = x.self in
    let q = c.frame_of-frame in
    -- the station is in range,
    let in_range = left (station_ok st) c.requires (not_from_true x.good c.if-not-good.false) in
    -- and so is the frame
    let frame_in_range = left (frame_ok (bounds_of st.settings) q.result) c.frame_ok.ensures (not_from_true c.frame_ok.result c.if-not-frame_ok.false) in
    rw (cut_given st in_range 0 x.size 1 0 q.result q.ensures frame_in_range)
    (cut_offered st in_range 0 x.size 1 0 q.result q.ensures frame_in_range (control_ringed st in_range x.size))

pub returns-in_err-control : goal.returns-in_err-control
returns-in_err-control c =
    let x = c.args in
    let st = x.self in
    let q = c.frame_of-frame in
    let in_range = left (station_ok st) c.requires (not_from_true x.good c.if-not-good.false) in
    let frame_in_range = left (frame_ok (bounds_of st.settings) q.result) c.frame_ok.ensures (not_from_true c.frame_ok.result c.if-not-frame_ok.false) in
    let back = err_from_is_err_and c.from_residual.result c.from_residual.ensures.1 in
    rw (back.1, back.2)
    (ap (brought_of st) (sym c.in_err-control.was ∙ c.control.ensures) ∙ control_brought st in_range x.size q.result q.ensures frame_in_range)

pub returns : goal.returns
returns c =
    let x = c.args in
    let st = x.self in
    let q = c.frame_of-frame in
    let in_range = left (station_ok st) c.requires (not_from_true x.good c.if-not-good.false) in
    let frame_in_range = left (frame_ok (bounds_of st.settings) q.result) c.frame_ok.ensures (not_from_true c.frame_ok.result c.if-not-frame_ok.false) in
    rw c.with_flow.ensures
    (ap (brought_of st) (sym c.in_ok-control.was ∙ c.control.ensures) ∙ control_brought st in_range x.size q.result q.ensures frame_in_range)
