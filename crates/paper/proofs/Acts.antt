-- Stations start and act so, by the laws beside each call.
-- Assumes nothing.
use Prim.Native.Nat.{ℕ, ◌≤◌, ◌<◌}
use mathlib.Core.Bool.{Bool, true, false, ◌&&◌}
use mathlib.Core.List.{[], ◌∷◌, ◌++◌, append-nil}
use mathlib.Core.Logic.{◌↔◌}
use mathlib.Core.Path.{◌≡◌, refl, sym, subst}
use native.Mathlib.Omega.{arith}
use borrow.Author.Tests.{eqb-true, eq-eqb, ne_eqb}
use lib.Dec.{eqb}
use Rattle.decide.specs.Test.{test, both, and_i, passes}
use Rattle.decide.specs.Hops.{in_ring}
use Rattle.decide.proofs.Cases.{by_cases, true_or_false}
use Rattle.settings.specs.declared.Settings.{Settings}
use Rattle.queue.specs.declared.Frame.{Frame}
use Rattle.queue.specs.declared.Queue.{Queue}
use Rattle.queue.specs.Frame.{frame_ok, FrameOk}
use Rattle.queue.specs.Queue.{empty_queue, frames_of, pushed, space_of}
use Rattle.queue.proofs.Word.{frame_holds}
use Rattle.rates.specs.Rates.{own_rate_of}
use Rattle.credits.specs.declared.Which.{Which}
use Rattle.credits.specs.Which.{permits_all}
use Rattle.credits.specs.Way.{needs_of, mark_of}
use Rattle.flow.specs.Offer.{Entered}
use Rattle.flow.specs.declared.Flow.{Flow}
use Rattle.flow.specs.declared.Line.{Line}
use Rattle.flow.specs.declared.Line.TheVariants.{Control, Primary, Secondary}
use Rattle.flow.specs.Parts.{queue_of, capacity_of, bounds_of, stage_holds, with_credits, with_queue}
use Rattle.flow.specs.Offer.{queue_for, control_frame}
use Rattle.flow.specs.Tick as flow
use Rattle.flow.specs.Frames.{Staged}
use Rattle.flow.proofs.Held.{staged}
use Rattle.flow.proofs.Range.{start_credit, start_queue, start_stage}
use Rattle.flow.proofs.Offer.{enter_taken}
use Rattle.flow.proofs.Frames.{enter_appends}
use Rattle.fair.proofs.Count.{over_exactly}
use Rattle.station.specs.declared.Station.{Station}
use Rattle.shaper.specs.Refused.{afterwards}
use Rattle.station.specs.Range.{station_ok, StationOk}
use Rattle.station.specs.Answers.{with_flow, Done, done_of}
use Rattle.station.specs.Calls.{flags_ok, tick_of}
use Rattle.station.specs.Offers.{given_frame, offer_of, over_for, way_for}
use Rattle.station.specs.History.{Answer}
use Rattle.settings.specs.Range.{settings_ok, SettingsOk}
use Rattle.settings.proofs.Range as settings
use Rattle.station.proofs.Range.{facts_in_range}
use Rattle.station.proofs.Calls.{start_refused_lem, start_done, tick_done, select_done}
use Rattle.station.proofs.Interval.{age_ages}
use Rattle.station.proofs.Offers.{offer_taken, client_occupied, client_denied, client_passing, client_entered}
use Rattle.station.proofs.Hear.{tell_done, show_done}
use Rattle.station.proofs.History.{trace_creditless}
use Rattle.wire.specs.Wire.{le, digits}
use Rattle.paper.proofs.Reasons.{denied_by, flags_exactly}
use Rattle.paper.specs.Acts.{least, Starts, Brings, Passes, Stages, YesNo, Acts, Traces, ReadsOff}

pub some_start : SettingsOk least
unfolding settings_ok test
some_start = settings.in_range_facts least refl

pub starts : (s : Settings) → Starts s
unfolding own_rate_of empty_queue
starts s =
    record {
      credits = start_credit s;
      queues = start_queue s;
      stage = start_stage s;
      rates = refl;
      settings = refl;
      whatever = λ st ok. start_done st s (settings.facts_in_range s ok);
      refused = λ st n. start_refused_lem st s (denied_by (settings.in_range_facts s) n);
    }

-- a flow with one queue anew
module _ (f : Flow) (q : Queue) where
  other_queue : (l k : Line) → (k ≡ l → ⊥) → queue_of (with_queue f l q) k ≡ queue_of f k
  other_queue Control Control n = absurd (n refl)
  other_queue Control Primary n = refl
  other_queue Control Secondary n = refl
  other_queue Primary Control n = refl
  other_queue Primary Primary n = absurd (n refl)
  other_queue Primary Secondary n = refl
  other_queue Secondary Control n = refl
  other_queue Secondary Primary n = refl
  other_queue Secondary Secondary n = absurd (n refl)

  other_parts : (l : Line) → ((with_queue f l q).credits ≡ f.credits) × ((with_queue f l q).stage ≡ f.stage)
  other_parts Control = (refl, refl)
  other_parts Primary = (refl, refl)
  other_parts Secondary = (refl, refl)

module _ {st : Station} (ok : StationOk st) where
  in_range_lem : test (station_ok st) ≡ true
  in_range_lem = facts_in_range st ok

  -- a frame in range passes the test
  tested : {x : Frame} → FrameOk (bounds_of st.settings) x → test (frame_ok (bounds_of st.settings) x) ≡ true
  tested {x} frame = passes (frame_ok (bounds_of st.settings) x) (frame_holds (bounds_of st.settings) x frame)

  ringed : (hops : ℕ) → hops < st.settings.site.stations → test (in_ring st.settings.site.stations hops) ≡ true
  ringed hops within = passes (in_ring st.settings.site.stations hops) within

  brings : (l : Line) (x : Frame) → FrameOk (bounds_of st.settings) x → x.hops < st.settings.site.stations
      → x.size ≤ space_of (queue_of st.flow l) (capacity_of st.settings l) → Brings st l x (offer_of st l x)
  brings l x frame within fits =
      let q = pushed (queue_of st.flow l) x in
      let parts = other_parts st.flow q l in
      subst (Brings st l x)
      (sym (offer_taken st l x in_range_lem (tested frame) (ringed x.hops within) fits))
      (record {
        number = (refl, refl);
        last =
            subst (λ (e : Entered). frames_of (queue_of (afterwards st.flow e) l) ≡ frames_of (queue_of st.flow l) ++ (x ∷ []))
            (enter_taken st.settings st.flow l x fits) (enter_appends st.settings st.flow ok.settings ok.flow l x (record { frame = frame; ring = within }) fits);
        others = other_queue st.flow q l;
        kept = (parts.0, parts.1, refl, refl);
      })

  empty : (Staged st.flow → ⊥) → stage_holds st.flow ≡ false
  empty none = denied_by (staged st.flow).0 none

  module _ (class size hops : ℕ) (frame : FrameOk (bounds_of st.settings) (given_frame class size hops 0)) (within : hops < st.settings.site.stations) where
    -- what is asked for 7: the frame is eligible, and would pass the rate
    abbrev asked : Bool
    asked = eqb (mark_of (way_for st class)) 1 && over_for st size hops

    asked_exactly : (asked ≡ true) ↔ ((mark_of (way_for st class) ≡ 1) × Passes st.fair size hops)
    asked_exactly =
        let marked = mark_of (way_for st class) in
        let over = over_exactly st.fair size hops in (
          λ e. let p = both (eqb marked 1) (over_for st size hops) e in (eqb-true marked 1 p.0, over.0 p.1),
          λ p. and_i (eqb marked 1) (over_for st size hops) (eq-eqb marked 1 p.0) (over.1 p.1),
        )

    stages : Stages st class size hops (way_for st class)
    stages =
        record {
          full = λ some. client_occupied st class size hops in_range_lem (tested frame) (ringed hops within) ((staged st.flow).1 some);
          barred = λ none lacks. client_denied st class size hops in_range_lem (tested frame) (ringed hops within) (empty none)
              (by_cases (true_or_false (permits_all st.settings st.flow.credits (needs_of (way_for st class)))) (λ p. absurd (lacks p)) (λ p. p));
          passing = λ none may marked past. client_passing st class size hops in_range_lem (tested frame) (ringed hops within) (empty none) may (asked_exactly.1 (marked, past));
          taken = λ none may no. client_entered st class size hops in_range_lem (tested frame) (ringed hops within) (empty none) may
              (by_cases (true_or_false asked) (λ e. absurd (no (asked_exactly.0 e))) (λ e. e));
        }

  tick_credits : (a b c : ℕ) → YesNo a × YesNo b × YesNo c
      → tick_of st a b c ≡ done_of (with_flow st (with_credits st.flow (afterwards st (tick_of st a b c)).flow.credits))
  unfolding flow.tick_of
  tick_credits a b c flags =
      subst (λ (r : Done). r ≡ done_of (with_flow st (with_credits st.flow (afterwards st r).flow.credits)))
      (sym (tick_done st a b c in_range_lem (passes (flags_ok a b c) ((flags_exactly a b c).1 flags)))) refl

  pub acts : Acts st
  acts =
      record {
        tick = tick_credits;
        transit = λ class size hops eligible. brings (queue_for st.settings class) (given_frame class size hops eligible);
        control = λ size frame. brings Control (control_frame size) frame ok.settings.of_site.stations_least;
        client = stages;
        select = select_done st in_range_lem;
        age = age_ages ok;
        tell = tell_done st in_range_lem;
        show = show_done st in_range_lem;
      }

pub traces : (st : Station) (w : Which) (r : Answer) → Traces st w r
traces st w r =
    record {
      tick = λ a b c e. rw (eq-eqb r.number 0 e);
      no_tick = λ a b c n. rw (ne_eqb r.number 0 n);
      client = λ class size hops e. rw (eq-eqb r.number 0 e);
      no_client = λ class size hops n. rw (ne_eqb r.number 0 n);
      managed = λ e. rw (eq-eqb r.origin 1 e);
      secondary = λ e t. rw (e, t);
      needy = λ e t. rw (e, t);
      elsewhere = λ m n. rw (ne_eqb r.origin 1 m, ne_eqb r.origin 3 n);
      transit = λ class size hops eligible. refl;
      control = λ size. refl;
      age = refl;
      hear = λ frame bytes. refl;
      tell = refl;
      show = refl;
      creditless = λ c k. trace_creditless w c r st k;
    }

pub reads_off : (st : Station) (w : Which) (r : ℕ) → ReadsOff st w r
unfolding digits le
reads_off st w r =
    record {
      number = refl;
      origin = refl;
      mark = omega arith;
      size = omega arith;
      tick = λ a b c. append-nil _;
      client = λ class size hops. append-nil _;
      select = append-nil _;
      start = λ settings bytes. refl;
      transit = λ class size hops eligible. refl;
      control = λ size. refl;
      age = refl;
      read_frame_lem = λ frame bytes. refl;
      write_frame_lem = λ room. refl;
      show = λ room. refl;
    }
