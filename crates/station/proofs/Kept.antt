-- Every call on a station in range leaves one in range: each case of a call is carried out by parts that keep theirs, or leaves the station.
-- Assumes nothing.
use Rattle.std.specs.Prelude.{Result, Ok}
use Rattle.shaper.specs.declared.Refused.{Refused}
use Rattle.shaper.specs.Refused.{afterwards}
use Prim.Native.Nat.{ℕ}
use mathlib.Core.Bool.{true}
use mathlib.Core.List.{List}
use mathlib.Core.Path.{◌≡◌, sym, subst}
use native.Mathlib.Omega.{arith}
use lib.Dec.{eqb}
use Rattle.decide.specs.Test.{test, Holds, facts}
use Rattle.decide.specs.Hops.{in_ring}
use Rattle.decide.proofs.Cases.{by_cases, true_or_false}
use Rattle.wire.specs.Wire.{Bytes}
use Rattle.queue.specs.declared.Frame.{Frame}
use Rattle.queue.specs.Frame.{frame_ok, HeldOk}
use Rattle.queue.proofs.Word.{frame_facts}
use Rattle.settings.specs.declared.Settings.{Settings}
use Rattle.settings.specs.Range.{settings_ok}
use Rattle.settings.proofs.Range as settings
use Rattle.advert.specs.Frame.{whole, advert_in}
use Rattle.advert.proofs.ReadBack.{parsed_fits}
use Rattle.flow.specs.declared.Line.{Line}
use Rattle.flow.specs.declared.Line.TheVariants.{Control}
use Rattle.flow.specs.Parts.{bounds_of}
use Rattle.flow.specs.Offer.{queue_for, control_frame, enter_of}
use Rattle.flow.specs.Range.{FlowOk}
use Rattle.flow.proofs.Kept.{tick_kept, transit_kept, control_kept, client_kept}
use Rattle.selection.specs.Select.{select_of}
use Rattle.selection.proofs.Kept.{select_kept}
use Rattle.heard.specs.Range.{ttl_ok, hops_of}
use Rattle.heard.specs.Frame.{own_ringlet, own_address}
use Rattle.fair.proofs.Age.{age_in_range}
use Rattle.fair.proofs.Count.{count_in_range}
use Rattle.fair.proofs.Heard.{heard_in_range}
use Rattle.station.specs.declared.Station.{Station}
use Rattle.station.specs.declared.Client.{Client}
use Rattle.station.specs.declared.Selected.{Selected}
use Rattle.station.specs.Range.{station_ok, StationOk}
use Rattle.station.specs.Answers.{Done, refused_of, done_of, chosen_of, rest_after}
use Rattle.station.specs.Calls as calls
use Rattle.station.specs.Calls.{flags_ok, ticked_of, aged_of, share_for, start_of}
use Rattle.station.specs.Offers.{given_frame, brought_of, offer_of, over_for, staged_of, staging, turned_of, station_left, offer_client_of}
use Rattle.station.specs.Hear.{changed_of, hear_of}
use Rattle.station.specs.History.{Call, tick, offer_client, offer_transit, offer_control, select, age, hear, tell, show, step}
use Rattle.station.proofs.Range.{facts_in_range, fresh_ok}
use Rattle.station.proofs.Calls.{start_refused_lem, start_done, tick_coded, tick_done, select_done, age_done}
use Rattle.station.proofs.Offers.{brought_after, staged_after, offer_coded, offer_beyond, offer_brought, client_coded, client_beyond, client_staged}
use Rattle.station.proofs.Hear.{hear_not_whole, hear_whole, listen_own, listen_far, listen_beyond, listen_self, listen_done}

-- ---- what a call on a station in range can answer

module _ {st : Station} (ok : StationOk st) where
  in_range_lem : test (station_ok st) ≡ true
  in_range_lem = facts_in_range st ok

  pub tick_cases : (P : Done → Type 0) (a b c : ℕ) → P (done_of (ticked_of st (eqb a 1) (eqb b 1) (eqb c 1))) → P (refused_of 3) → P (calls.tick_of st a b c)
  tick_cases P a b c does turns =
      by_cases (true_or_false (test (flags_ok a b c)))
      (λ f. subst P (sym (tick_done st a b c in_range_lem f)) does)
      (λ f. subst P (sym (tick_coded st a b c in_range_lem f)) turns)

  -- a frame that is neither 3 nor 13 may be held
  may_be_held : (x : Frame) → test (frame_ok (bounds_of st.settings) x) ≡ true → test (in_ring st.settings.site.stations x.hops) ≡ true → HeldOk (bounds_of st.settings) x
  may_be_held x f r =
      let bounds = bounds_of st.settings in
      record { frame = frame_facts bounds x (facts (frame_ok bounds x) f); ring = facts (in_ring st.settings.site.stations x.hops) r }

  pub offer_cases : (P : Done → Type 0) (l : Line) (x : Frame) → (HeldOk (bounds_of st.settings) x → P (brought_of st (enter_of st.settings st.flow l x)))
      → ((n : ℕ) → P (refused_of n)) → P (offer_of st l x)
  offer_cases P l x does turns =
      by_cases (true_or_false (test (frame_ok (bounds_of st.settings) x)))
      (λ f. by_cases (true_or_false (test (in_ring st.settings.site.stations x.hops)))
      (λ r. subst P (sym (offer_brought st l x in_range_lem f r)) (does (may_be_held x f r)))
      (λ r. subst P (sym (offer_beyond st l x in_range_lem f r)) (turns 13)))
      (λ f. subst P (sym (offer_coded st l x in_range_lem f)) (turns 3))

  pub client_cases : (P : Result Client Refused → Type 0) (class size hops : ℕ) → (HeldOk (bounds_of st.settings) (given_frame class size hops 0) → P (staged_of st (staging st class size hops)))
      → P (turned_of 3 0) → P (turned_of 13 0) → P (offer_client_of st class size hops)
  client_cases P class size hops does coded beyond =
      let x = given_frame class size hops 0 in
      by_cases (true_or_false (test (frame_ok (bounds_of st.settings) x)))
      (λ f. by_cases (true_or_false (test (in_ring st.settings.site.stations hops)))
      (λ r. subst P (sym (client_staged st class size hops in_range_lem f r)) (does (may_be_held x f r)))
      (λ r. subst P (sym (client_beyond st class size hops in_range_lem f r)) beyond))
      (λ f. subst P (sym (client_coded st class size hops in_range_lem f)) coded)

  pub select_case : (P : Result Selected Refused → Type 0) → P (Ok (chosen_of st)) → P (calls.select_of st)
  select_case P does = subst P (sym (select_done st in_range_lem)) does

  pub age_case : (P : Done → Type 0) → P (done_of (aged_of st)) → P (calls.age_of st)
  age_case P does = subst P (sym (age_done st in_range_lem)) does

  pub hear_cases : (P : Done → Type 0) (xs : List ℕ)
      → (Holds (ttl_ok (advert_in xs).ttl) → Holds (in_ring st.settings.site.stations (hops_of (advert_in xs).ttl)) → P (done_of (changed_of st (advert_in xs))))
      → ((n : ℕ) → P (refused_of n)) → P (hear_of st xs)
  hear_cases P xs does turns =
      let a = advert_in xs in
      by_cases (true_or_false (test (whole xs)))
      (λ w. subst P (sym (hear_whole st xs w))
      (by_cases (true_or_false (test (own_ringlet st.settings a)))
      (λ r. subst P (sym (listen_own st a r)) (turns 2))
      (λ r. by_cases (true_or_false (test (ttl_ok a.ttl)))
      (λ t. by_cases (true_or_false (test (in_ring st.settings.site.stations (hops_of a.ttl))))
      (λ g. by_cases (true_or_false (test (own_address st.settings a)))
      (λ o. subst P (sym (listen_self st a r in_range_lem t g o)) (turns 11))
      (λ o. subst P (sym (listen_done st a r in_range_lem t g o)) (does (facts (ttl_ok a.ttl) t) (facts (in_ring st.settings.site.stations (hops_of a.ttl)) g))))
      (λ g. subst P (sym (listen_beyond st a r in_range_lem t g)) (turns 13)))
      (λ t. subst P (sym (listen_far st a r in_range_lem t)) (turns 3)))))
      (λ w. subst P (sym (hear_not_whole st xs w)) (turns 2))

  -- ---- the range

  frames_kept : (l : Line) (x : Frame) → FlowOk st.settings (afterwards st.flow (enter_of st.settings st.flow l x)) → StationOk (afterwards st (brought_of st (enter_of st.settings st.flow l x)))
  frames_kept l x h = rw (brought_after st (enter_of st.settings st.flow l x)) (record { settings = ok.settings; flow = h; fair = ok.fair })

  hear_kept : (xs : List ℕ) → Bytes xs → Holds (ttl_ok (advert_in xs).ttl) → Holds (in_ring st.settings.site.stations (hops_of (advert_in xs).ttl)) → StationOk (changed_of st (advert_in xs))
  hear_kept xs bytes t g =
      let fits = parsed_fits xs bytes in
      record {
        settings = ok.settings;
        flow = ok.flow;
        fair = heard_in_range st.settings ok.settings st.fair ok.fair (advert_in xs) t.0 t.1 g (omega (arith, fits.high_fits)) (omega (arith, fits.rate_fits));
      }

  pub range_kept : (c : Call) → StationOk (step c st).station
  range_kept (tick a b c) =
      tick_cases (λ (r : Done). StationOk (afterwards st r)) a b c
      (record { settings = ok.settings; flow = tick_kept ok.settings ok.flow (share_for st) (eqb a 1) (eqb b 1) (eqb c 1); fair = ok.fair })
      ok
  range_kept (offer_client class size hops) =
      client_cases (λ (r : Result Client Refused). StationOk (station_left st r)) class size hops
      (λ x. rw (staged_after st (staging st class size hops)) (record { settings = ok.settings; flow = client_kept ok.settings class size hops (over_for st size hops) ok.flow x; fair = ok.fair }))
      ok
      ok
  range_kept (offer_transit class size hops eligible) =
      let x = given_frame class size hops eligible in
      offer_cases (λ (r : Done). StationOk (afterwards st r)) (queue_for st.settings class) x (λ h. frames_kept (queue_for st.settings class) x (transit_kept ok.settings x ok.flow h)) (λ n. ok)
  range_kept (offer_control size) =
      offer_cases (λ (r : Done). StationOk (afterwards st r)) Control (control_frame size) (λ h. frames_kept Control (control_frame size) (control_kept ok.settings size ok.flow h)) (λ n. ok)
  range_kept select =
      let r = select_of st.settings st.flow in
      select_case (λ (r : Result Selected Refused). StationOk (rest_after st r))
      (record {
        settings = ok.settings;
        flow = select_kept ok.settings ok.flow;
        fair = count_in_range st.fair st.settings r.origin r.frame.mark r.frame.hops r.frame.size ok.fair;
      })
  range_kept age =
      age_case (λ (r : Done). StationOk (afterwards st r))
      (record { settings = ok.settings; flow = ok.flow; fair = age_in_range st.fair st.settings st.flow.secondary.held ok.settings ok.fair })
  range_kept (hear xs bytes) = hear_cases (λ (r : Done). StationOk (afterwards st r)) xs (hear_kept xs bytes) (λ n. ok)
  range_kept tell = ok
  range_kept show = ok

  -- start too: a fresh station, or the old one
  pub start_kept : (s : Settings) → StationOk (afterwards st (start_of st s))
  start_kept s =
      by_cases (true_or_false (test (settings_ok s)))
      (λ e. subst (λ (r : Done). StationOk (afterwards st r)) (sym (start_done st s e)) (fresh_ok (settings.in_range_facts s e)))
      (λ e. subst (λ (r : Done). StationOk (afterwards st r)) (sym (start_refused_lem st s e)) ok)
