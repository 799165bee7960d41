-- The offers, row by row: rows stand in the order of their ranks, so 1, 3 and 13 may be tried first, and the queue or the stage says the rest.
-- Assumes nothing.
use Rattle.std.specs.Prelude.{Result, Ok, Err}
use Rattle.shaper.specs.declared.Refused.{Refused}
use Rattle.shaper.specs.Refused.{number_said, afterwards}
use Prim.Native.Nat.{ℕ, ◌≤◌, ◌<◌}
use mathlib.Core.Bool.{Bool, true, false, ◌&&◌}
use mathlib.Core.List.{List}
use mathlib.Core.Path.{◌≡◌, refl, sym, ap, ◌∙◌}
use native.Mathlib.Omega.{arith}
use lib.Dec.{eqb}
use Rattle.decide.specs.Test.{test, facts, passes}
use Rattle.decide.specs.Hops.{in_ring}
use Rattle.decide.specs.Refusal.{Fault, first_of, refused_or}
use Rattle.decide.proofs.Cases.{by_cases, le_or, true_or_false}
use Rattle.decide.proofs.Given.{in_order_lem}
use Rattle.decide.proofs.Refused.{of_answer, carried_by, refused_by}
use Rattle.queue.specs.declared.Bounds.{Bounds}
use Rattle.queue.specs.declared.Frame.{Frame}
use Rattle.queue.specs.Frame.{frame_ok, FrameOk, BoundsOk, word_of}
use Rattle.queue.specs.Queue.{pushed, space_of}
use Rattle.decide.proofs.Tests.{same_test}
use Rattle.queue.proofs.Word.{frame_facts}
use Rattle.credits.specs.Which.{permits_all, sends, fed}
use Rattle.credits.specs.Way.{needs_of, mark_of}
use Rattle.flow.specs.declared.Client as flow
use Rattle.flow.specs.declared.Line.{Line}
use Rattle.flow.specs.declared.Line.TheVariants.{Control}
use Rattle.flow.specs.Parts.{queue_of, capacity_of, bounds_of, stage_holds, with_credits, with_stage, with_queue}
use Rattle.flow.specs.Offer.{Entered, Offered, enter_faults, enter_of, queue_for, transit_of, control_frame, control_of, flow_after, client_faults, client_frame}
use Rattle.flow.proofs.Range.{bounds_ok}
use Rattle.flow.proofs.Offer.{enter_refused, enter_taken, client_full, client_barred, client_over, client_taken}
use Rattle.station.specs.declared.Station.{Station}
use Rattle.station.specs.declared.Client.{Client}
use Rattle.station.specs.Range.{station_ok, StationOk}
use Rattle.station.specs.Answers.{with_flow, Done, refused_of, done_of}
use Rattle.station.specs.Offers.{given_frame, cut_of, cut_frame, offer_faults, brought_of, offer_of, offer_control_of, over_for, way_for, offer_client_faults, staged_of, staging, short_for, turned_of, turned_for, taken_of, station_left, offer_transit_of, offer_client_of}
use Rattle.station.proofs.Range.{in_range_facts}

-- ---- numbers that are cut

-- what fits is not cut
cut_small : (x : ℕ) → x ≤ 9216 → cut_of x ≡ x
cut_small x h = omega arith

module _ (bounds : Bounds) (small : BoundsOk bounds) (class size hops mark : ℕ) where
  -- a frame with a number that is cut is out of range before and after
  cut_test : test (frame_ok bounds (cut_frame class size hops mark)) ≡ test (frame_ok bounds (given_frame class size hops mark))
  cut_test =
      same_test (frame_ok bounds (cut_frame class size hops mark)) (frame_ok bounds (given_frame class size hops mark))
      (λ h. ((omega arith, omega (arith, small.mtu_most)), ((omega arith, omega arith), (omega arith, (omega arith, omega arith)))))
      (λ h. ((omega arith, omega (arith, small.mtu_most)), ((omega arith, omega arith), (omega arith, (omega arith, omega arith)))))

  cut_is : FrameOk bounds (given_frame class size hops mark) → cut_frame class size hops mark ≡ given_frame class size hops mark
  cut_is ok =
      rw
      (cut_small size (omega (arith, ok.most, small.mtu_most)), cut_small hops (omega (arith, ok.hops)), cut_small class (omega (arith, ok.class)), cut_small mark (omega (arith, ok.mark)))

-- the frame of the numbers, each cut, in a station in range
module _ (st : Station) (e : test (station_ok st) ≡ true) (class size hops mark : ℕ) (x : Frame) (q : x ≡ cut_frame class size hops mark) where
  ok : StationOk st
  ok = in_range_facts st e

  -- its test is that of the given frame,
  pub cut_tested : (b : Bool) → test (frame_ok (bounds_of st.settings) x) ≡ b → test (frame_ok (bounds_of st.settings) (given_frame class size hops mark)) ≡ b
  cut_tested b t =
      sym (cut_test (bounds_of st.settings) (bounds_ok ok.settings) class size hops mark) ∙ sym (ap (λ (f : Frame). test (frame_ok (bounds_of st.settings) f)) q) ∙ t

  module _ (t : test (frame_ok (bounds_of st.settings) x) ≡ true) where
    given_ok : FrameOk (bounds_of st.settings) (given_frame class size hops mark)
    given_ok = let f = given_frame class size hops mark in frame_facts (bounds_of st.settings) f (facts (frame_ok (bounds_of st.settings) f) (cut_tested true t))

    -- which it is where it passes,
    pub cut_given : x ≡ given_frame class size hops mark
    cut_given = q ∙ cut_is (bounds_of st.settings) (bounds_ok ok.settings) class size hops mark given_ok

    -- so that its hops are the given ones,
    pub cut_ringed : (b : Bool) → test (in_ring st.settings.site.stations x.hops) ≡ b → test (in_ring st.settings.site.stations hops) ≡ b
    cut_ringed b t = sym (ap (λ (f : Frame). test (in_ring st.settings.site.stations f.hops)) cut_given) ∙ t

    -- and which may be offered where they are within the ring
    pub cut_offered : test (in_ring st.settings.site.stations hops) ≡ true → Offered st.settings st.flow (given_frame class size hops mark)
    cut_offered r =
        record { settings = ok.settings; flow = ok.flow; frame = record { frame = given_ok; ring = facts (in_ring st.settings.site.stations hops) r } }

-- the one hop of a control frame is within every ring
pub control_ringed : (st : Station) → test (station_ok st) ≡ true → (size : ℕ) → test (in_ring st.settings.site.stations (control_frame size).hops) ≡ true
control_ringed st e size = passes (in_ring st.settings.site.stations 1) (in_range_facts st e).settings.of_site.stations_least

-- ---- into a queue

module _ (st : Station) (l : Line) (x : Frame) where
  -- 1 where the station is out of range
  pub offer_lost : test (station_ok st) ≡ false → offer_of st l x ≡ refused_of 1
  unfolding refused_or
  offer_lost e = rw (in_order_lem (offer_faults st l x) refl, e)

  -- else 3 where the frame is
  pub offer_coded : test (station_ok st) ≡ true → test (frame_ok (bounds_of st.settings) x) ≡ false → offer_of st l x ≡ refused_of 3
  unfolding refused_or
  offer_coded e f = rw (in_order_lem (offer_faults st l x) refl, e, f)

  -- else 13 where its hops reach the number of stations or more
  pub offer_beyond : test (station_ok st) ≡ true → test (frame_ok (bounds_of st.settings) x) ≡ true → test (in_ring st.settings.site.stations x.hops) ≡ false
      → offer_of st l x ≡ refused_of 13
  unfolding refused_or
  offer_beyond e f r = rw (in_order_lem (offer_faults st l x) refl, e, f, r)

  module _ (e : test (station_ok st) ≡ true) (f : test (frame_ok (bounds_of st.settings) x) ≡ true) (r : test (in_ring st.settings.site.stations x.hops) ≡ true) where
    -- else what the queue says:
    pub offer_brought : offer_of st l x ≡ brought_of st (enter_of st.settings st.flow l x)
    offer_brought =
        ap (λ (n : ℕ). said n (enter_of st.settings st.flow l x)) number
        ∙ of_answer _ _ (λ (r : Entered). said (first_of rows) r ≡ brought_of st r) _ (carried_by _ _ _) (refused_by _ _ _)
      where
        rows : List Fault
        rows = enter_faults st.settings st.flow l x

        -- the station's answer by a number, from the queue's answer
        said : ℕ → Entered → Done
        said n r = refused_or refused_of n (done_of (with_flow st (afterwards st.flow r)))

        number : first_of (offer_faults st l x) ≡ first_of rows
        number = rw (in_order_lem (offer_faults st l x) refl, in_order_lem rows refl, e, f, r)

    -- 4 where the size exceeds its space,
    pub offer_full : space_of (queue_of st.flow l) (capacity_of st.settings l) < x.size → offer_of st l x ≡ refused_of 4
    offer_full h = offer_brought ∙ ap (brought_of st) (enter_refused st.settings st.flow l x h)

    -- and elsewhere the frame stands last in it
    pub offer_taken : x.size ≤ space_of (queue_of st.flow l) (capacity_of st.settings l)
        → offer_of st l x ≡ done_of (with_flow st (with_queue st.flow l (pushed (queue_of st.flow l) x)))
    offer_taken h = offer_brought ∙ ap (brought_of st) (enter_taken st.settings st.flow l x h)

-- the station afterwards, as a queue or the stage says
pub brought_after : (st : Station) (r : Entered) → afterwards st (brought_of st r) ≡ with_flow st (afterwards st.flow r)
brought_after st (Ok f) = refl
brought_after st (Err e) = refl

pub staged_after : (st : Station) (r : Result flow.Client Refused) → station_left st (staged_of st r) ≡ with_flow st (flow_after st.flow r)
staged_after st (Ok r) = refl
staged_after st (Err e) = refl

-- The frame of the numbers, each cut, is in range and within the ring: what its queue says is the answer to the numbers.
module _ (st : Station) (e : test (station_ok st) ≡ true) (class size hops mark : ℕ) (x : Frame) (q : x ≡ cut_frame class size hops mark)
    (t : test (frame_ok (bounds_of st.settings) x) ≡ true) where
  cut_brought : (l : Line) → test (in_ring st.settings.site.stations hops) ≡ true
      → brought_of st (enter_of st.settings st.flow l (given_frame class size hops mark)) ≡ offer_of st l (given_frame class size hops mark)
  cut_brought l r = sym (offer_brought st l (given_frame class size hops mark) e (cut_tested st e class size hops mark x q true t) r)

  pub transit_brought : test (in_ring st.settings.site.stations hops) ≡ true → brought_of st (transit_of st.settings st.flow x) ≡ offer_transit_of st class size hops mark
  transit_brought r = rw (cut_given st e class size hops mark x q t) (cut_brought (queue_for st.settings class) r)

pub control_brought : (st : Station) (e : test (station_ok st) ≡ true) (size : ℕ) (x : Frame) (q : x ≡ cut_frame 0 size 1 0)
    → test (frame_ok (bounds_of st.settings) x) ≡ true → brought_of st (control_of st.settings st.flow x.size) ≡ offer_control_of st size
control_brought st e size x q t = rw (cut_given st e 0 size 1 0 x q t) (cut_brought st e 0 size 1 0 x q t Control (control_ringed st e size))

-- A control frame never gets 13, whatever the station is.
pub control_never_13 : (st : Station) (size : ℕ) → number_said (offer_control_of st size) ≡ 13 → ⊥
control_never_13 st size e =
    by_cases (true_or_false (test (station_ok st)))
    (λ ok. by_cases (true_or_false (test (frame_ok (bounds_of st.settings) x)))
    (λ f. by_cases (le_or size (space_of st.flow.control st.settings.queues.control))
    (λ fits. other (offer_taken st Control x ok f (control_ringed st ok size) fits) (λ z. omega arith))
    (λ over. other (offer_full st Control x ok f (control_ringed st ok size) over) (λ z. omega arith)))
    (λ f. other (offer_coded st Control x ok f) (λ z. omega arith)))
    (λ lost. other (offer_lost st Control x lost) (λ z. omega arith))
  where
    x : Frame
    x = control_frame size

    -- an answer of another number
    other : {r : Done} → offer_control_of st size ≡ r → (number_said r ≡ 13 → ⊥) → ⊥
    other is never = never (sym (ap (λ (d : Done). number_said d) is) ∙ e)

-- ---- into the stage

module _ (st : Station) (class size hops : ℕ) where
  -- 1 where the station is out of range
  pub client_lost : test (station_ok st) ≡ false → offer_client_of st class size hops ≡ turned_of 1 0
  unfolding refused_or
  client_lost e = rw (in_order_lem (offer_client_faults st class size hops) refl, e)

  -- else 3 where the frame is
  pub client_coded : test (station_ok st) ≡ true → test (frame_ok (bounds_of st.settings) (given_frame class size hops 0)) ≡ false → offer_client_of st class size hops ≡ turned_of 3 0
  unfolding refused_or
  client_coded e f = rw (in_order_lem (offer_client_faults st class size hops) refl, e, f)

  -- else 13 where its hops reach the number of stations or more
  pub client_beyond : test (station_ok st) ≡ true → test (frame_ok (bounds_of st.settings) (given_frame class size hops 0)) ≡ true
      → test (in_ring st.settings.site.stations hops) ≡ false → offer_client_of st class size hops ≡ turned_of 13 0
  unfolding refused_or
  client_beyond e f r = rw (in_order_lem (offer_client_faults st class size hops) refl, e, f, r)

  module _ (e : test (station_ok st) ≡ true) (f : test (frame_ok (bounds_of st.settings) (given_frame class size hops 0)) ≡ true) (r : test (in_ring st.settings.site.stations hops) ≡ true) where
    -- else what the stage says:
    pub client_staged : offer_client_of st class size hops ≡ staged_of st (staging st class size hops)
    client_staged =
        ap (λ (n : ℕ). said n (staging st class size hops)) number
        ∙ of_answer _ _ (λ (r : Result flow.Client Refused). said (first_of rows) r ≡ staged_of st r) _ (carried_by _ _ _) (refused_by _ _ _)
      where
        rows : List Fault
        rows = client_faults st.settings st.flow (way_for st class) (over_for st size hops)

        -- the station's answer by a number, from the stage's answer
        said : ℕ → Result flow.Client Refused → Result Client Refused
        said n r = refused_or (turned_for st class) n (taken_of st r)

        number : first_of (offer_client_faults st class size hops) ≡ first_of rows
        number = rw (in_order_lem (offer_client_faults st class size hops) refl, in_order_lem rows refl, e, f, r)

    -- 5 where it holds a frame;
    pub client_occupied : stage_holds st.flow ≡ true → offer_client_of st class size hops ≡ turned_of 5 0
    client_occupied h = client_staged ∙ ap (staged_of st) (client_full (way_for st class) st.settings st.flow class size hops (over_for st size hops) h)

    module _ (h : stage_holds st.flow ≡ false) where
      -- else 6 where a needed shaper does not permit, and how far short they are;
      pub client_denied : permits_all st.settings st.flow.credits (needs_of (way_for st class)) ≡ false
          → offer_client_of st class size hops ≡ turned_of 6 (short_for st class)
      client_denied p = client_staged ∙ ap (staged_of st) (client_barred (way_for st class) st.settings st.flow class size hops (over_for st size hops) h p)

      module _ (p : permits_all st.settings st.flow.credits (needs_of (way_for st class)) ≡ true) where
        -- else 7 where an eligible frame would pass the congested fair rate;
        pub client_passing : (eqb (mark_of (way_for st class)) 1 && over_for st size hops) ≡ true → offer_client_of st class size hops ≡ turned_of 7 0
        client_passing o = client_staged ∙ ap (staged_of st) (client_over (way_for st class) st.settings st.flow class size hops (over_for st size hops) h p o)

        -- and elsewhere the frame lies in the stage, with its mark, and the needed shapers are charged
        pub client_entered : (eqb (mark_of (way_for st class)) 1 && over_for st size hops) ≡ false
            → offer_client_of st class size hops ≡ Ok (record {
              mark = mark_of (way_for st class);
              station = with_flow st (with_stage (with_credits st.flow (fed st.settings st.flow.credits (sends (needs_of (way_for st class)) size))) (word_of (client_frame (way_for st class) class size hops)));
            })
        client_entered o = client_staged ∙ ap (staged_of st) (client_taken (way_for st class) st.settings st.flow class size hops (over_for st size hops) h p o)
