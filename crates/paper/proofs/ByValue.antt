-- Calls by value refuse so, by the laws beside each.
-- Assumes nothing.
use Prim.Native.Nat.{ℕ}
use mathlib.Core.Bool.{true, false}
use mathlib.Core.List.{List}
use mathlib.Core.Path.{◌≡◌, ◌∙◌}
use Rattle.decide.proofs.Tests.{failing}
use Rattle.decide.proofs.Hops.{out_of_ring}
use Rattle.decide.specs.Test.{test, passes}
use Rattle.decide.specs.Hops.{in_ring}
use Rattle.queue.specs.declared.Frame.{Frame}
use Rattle.queue.specs.Frame.{frame_ok, FrameOk}
use Rattle.queue.proofs.Word.{frame_facts, frame_holds}
use Rattle.flow.specs.declared.Line.TheVariants.{Control}
use Rattle.flow.specs.Parts.{bounds_of}
use Rattle.flow.specs.Offer.{queue_for, control_frame}
use Rattle.advert.specs.declared.Advert.{Advert}
use Rattle.advert.specs.Frame.{whole, advert_in}
use Rattle.heard.specs.Range.{ttl_ok, hops_of}
use Rattle.heard.specs.Frame.{own_ringlet, own_address}
use Rattle.station.specs.declared.Station.{Station}
use Rattle.station.specs.Range.{station_ok, StationOk}
use Rattle.station.specs.Calls.{flags_ok}
use Rattle.station.specs.Offers.{given_frame}
use Rattle.station.proofs.Range.{in_range_facts, facts_in_range}
use Rattle.station.proofs.Calls.{tick_lost, tick_coded, select_lost, age_lost}
use Rattle.station.proofs.Offers.{offer_lost, offer_coded, offer_beyond, offer_full, control_ringed, client_lost, client_coded, client_beyond}
use Rattle.station.proofs.Hear.{hear_not_whole, hear_whole, listen_own, listen_lost, listen_far, listen_beyond, listen_self, listen_done, tell_lost, show_lost}
use Rattle.paper.proofs.Reasons.{denied_by, flags_exactly}
use Rattle.paper.specs.ByValue.{Lost, Unfit, Listens}

pub lost : (st : Station) → (StationOk st → ⊥) → Lost st
lost st n =
    let out : test (station_ok st) ≡ false = denied_by (in_range_facts st) n in
    record {
      tick = λ a b c. tick_lost st a b c out;
      transit = λ class size hops eligible. offer_lost st (queue_for st.settings class) (given_frame class size hops eligible) out;
      control = λ size. offer_lost st Control (control_frame size) out;
      client = λ class size hops. client_lost st class size hops out;
      select = select_lost st out;
      age = age_lost st out;
      tell = tell_lost st out;
      show = show_lost st out;
    }

pub unfit : {st : Station} → StationOk st → Unfit st
unfit {st} ok =
    let b = bounds_of st.settings in
    let stations = st.settings.site.stations in
    let in_range_lem = facts_in_range st ok in
    let outside : (x : Frame) → (FrameOk b x → ⊥) → test (frame_ok b x) ≡ false = λ x n. failing (frame_ok b x) (λ h. n (frame_facts b x h)) in
    let inside : (x : Frame) → FrameOk b x → test (frame_ok b x) ≡ true = λ x h. passes (frame_ok b x) (frame_holds b x h) in
    record {
      tick = λ a b c n. tick_coded st a b c in_range_lem (failing (flags_ok a b c) (λ h. n ((flags_exactly a b c).0 h)));
      transit = λ class size hops eligible n.
          let x = given_frame class size hops eligible in offer_coded st (queue_for st.settings class) x in_range_lem (outside x n);
      control = λ size n. offer_coded st Control (control_frame size) in_range_lem (outside (control_frame size) n);
      client = λ class size hops n. client_coded st class size hops in_range_lem (outside (given_frame class size hops 0) n);
      transit_beyond = λ class size hops eligible h g.
          let x = given_frame class size hops eligible in offer_beyond st (queue_for st.settings class) x in_range_lem (inside x h) (out_of_ring stations hops g);
      client_beyond = λ class size hops h g. client_beyond st class size hops in_range_lem (inside (given_frame class size hops 0) h) (out_of_ring stations hops g);
      transit_full = λ class size hops eligible h w.
          let x = given_frame class size hops eligible in offer_full st (queue_for st.settings class) x in_range_lem (inside x h) (passes (in_ring stations hops) w);
      control_full = λ size h. offer_full st Control (control_frame size) in_range_lem (inside (control_frame size) h) (control_ringed st in_range_lem size);
    }

pub listens : (st : Station) (frame : List ℕ) → Listens st frame
listens st frame =
    let s = st.settings in
    let a : Advert = advert_in frame in
    let range = facts_in_range st in
    let ttl = ttl_ok a.ttl in
    let ring = in_ring s.site.stations (hops_of a.ttl) in
    record {
      broken = λ n. hear_not_whole st frame (failing (whole frame) n);
      own_ringlet_lem = λ w r. hear_whole st frame (passes (whole frame) w) ∙ listen_own st a (passes (own_ringlet s a) r);
      lost = λ w r n. hear_whole st frame (passes (whole frame) w) ∙ listen_lost st a (failing (own_ringlet s a) r) (denied_by (in_range_facts st) n);
      ttl = λ w r ok t. hear_whole st frame (passes (whole frame) w) ∙ listen_far st a (failing (own_ringlet s a) r) (range ok) (failing ttl t);
      beyond = λ w r ok t g. hear_whole st frame (passes (whole frame) w)
          ∙ listen_beyond st a (failing (own_ringlet s a) r) (range ok) (passes ttl t) (out_of_ring s.site.stations (hops_of a.ttl) g);
      own_address_lem = λ w r ok t g o. hear_whole st frame (passes (whole frame) w)
          ∙ listen_self st a (failing (own_ringlet s a) r) (range ok) (passes ttl t) (passes ring g) (passes (own_address s a) o);
      heard = λ w r ok t g o. hear_whole st frame (passes (whole frame) w)
          ∙ listen_done st a (failing (own_ringlet s a) r) (range ok) (passes ttl t) (passes ring g) (failing (own_address s a) o);
    }
