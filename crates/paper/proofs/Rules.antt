-- These rules hold, by the laws beside each definition.
-- Assumes nothing.
use Prim.Native.Nat.{ℕ}
use mathlib.Core.Bool.{Bool, cond}
use mathlib.Core.List.{List, [], ◌∷◌}
use mathlib.Core.Path.{◌≡◌, refl, sym, ap, ◌∙◌}
use lib.Dec.{eqb}
use Rattle.decide.specs.Test.{Holds, facts, passes}
use Rattle.settings.specs.declared.Settings.{Settings}
use Rattle.shaper.specs.declared.Event.TheVariants.{Send}
use Rattle.shaper.specs.Credit.{end_credit}
use Rattle.shaper.proofs.Credit.{permits_exactly}
use Rattle.shaper.proofs.Short.{shortfall_least, permits_short}
use Rattle.credits.specs.declared.Credits.{Credits}
use Rattle.credits.specs.declared.Which.{Which}
use Rattle.credits.specs.Which.{bucket_of, credit_of, limits_for, member, sends, fed}
use Rattle.credits.proofs.Range.{credit_fed}
use Rattle.credits.proofs.Ways as way
use Rattle.credits.proofs.Short as short
use Rattle.flow.proofs.Tick as waiting
use Rattle.flow.proofs.Offer as offer
use Rattle.fair.specs.declared.Fair.{Fair}
use Rattle.advert.specs.declared.Advert.{Advert}
use Rattle.advert.specs.Frame.{whole, advert_bytes, AdvertFits, parsed_of}
use Rattle.advert.proofs.ReadBack.{parse_written, written_bare}
use Rattle.rates.specs.Rates.{counted_of}
use Rattle.fair.proofs.Count as count
use Rattle.fair.proofs.Told as told
use Rattle.fair.proofs.Heard as heard
use Rattle.station.specs.declared.Station.{Station}
use Rattle.station.specs.Range.{StationOk}
use Rattle.station.specs.Calls.{flags_ok, share_for}
use Rattle.station.proofs.Tick as tick
use Rattle.station.proofs.Hear.{frame_found}
use Rattle.paper.specs.Rules.{Ticks, Charges, Lacks, Enters, Counts, Tells, Reads, Writes, Hears}

pub ticks : (st : Station) → StationOk st → (a b c : ℕ) → Holds (flags_ok a b c) → Ticks st a b c
ticks st ok a b c flags =
    record {
      m_waits = waiting.m_waits st.flow (eqb a 1) (eqb b 1) (eqb c 1);
      a_waits = waiting.a_waits st.flow (eqb a 1) (eqb b 1) (eqb c 1);
      b_waits = waiting.b_waits st.flow (eqb a 1) (eqb b 1) (eqb c 1);
      c_waits = waiting.c_waits st.flow (eqb a 1) (eqb b 1) (eqb c 1);
      d_waits = waiting.d_waits st.flow (eqb a 1) (eqb b 1) (eqb c 1);
      c_amount = tick.c_amount st;
      set_amount = waiting.set_amount st.settings (share_for st);
      waiting = tick.tick_waiting ok a b c flags;
      idle = tick.tick_idle ok a b c flags;
    }

pub charges : (s : Settings) (c : Credits) → Charges s c
charges s c =
    record {
      permitted = λ w. permits_exactly (credit_of c w) (bucket_of s w).lo;
      none_needed = refl;
      needed = λ w ws. refl;
      charged = charge;
      spared = charge;
    }
  where
    -- one send, or none
    charge : {b : Bool} (ws : List Which) (size : ℕ) (w : Which) → member w ws ≡ b
        → credit_of (fed s c (sends ws size)) w ≡ end_credit (limits_for s w) (credit_of c w) (cond b (Send size ∷ []) [])
    charge ws size w e =
        credit_fed s c (sends ws size) w ∙ ap (λ (b : Bool). end_credit (limits_for s w) (credit_of c w) (cond b (Send size ∷ []) [])) e

pub lacks : (s : Settings) (c : Credits) → Lacks s c
lacks s c =
    record {
      least = λ w x. let least = shortfall_least (credit_of c w) (bucket_of s w).lo x in (least.1, least.0);
      nothing = λ w. permits_short (credit_of c w) (bucket_of s w).lo;
      one = short.short_one s c;
      two = short.short_two s c;
      client_a = short.short_a s c;
      client_b = short.short_b s c;
      client_c = short.short_c s c;
    }

pub enters : Enters
enters =
    record {
      transit_a = offer.transit_a;
      transit_b = offer.transit_b;
      transit_c = offer.transit_c;
      client_a = way.way_a;
      client_b = way.way_b;
      client_b_failing = way.way_b_failing;
      client_c = way.way_c;
      needs_a = refl;
      needs_b = refl;
      needs_excess = refl;
      marks = (refl, refl, refl);
    }

pub counts : (s : Settings) (f : Fair) (hops size : ℕ) → Counts s f hops size
unfolding counted_of
counts s f hops size =
    record {
      twin = count.beyond_exactly f hops;
      stage_twin = count.stage_beyond f s hops size;
      stage = count.stage_within f s hops size;
      secondary_twin = count.secondary_beyond f s hops size;
      secondary = count.secondary_within f s hops size;
      not_eligible = count.unmarked f s hops size;
      elsewhere = count.other_origin f s hops size;
      stop = λ counter. refl;
    }

pub tells : (f : Fair) (s : Settings) → Tells f s
tells f s =
    record {
      full = told.not_congested f s;
      own = told.only_locally f s;
      both = told.both_own f s;
      own_frame_lem = λ rate. refl;
      passed_on = refl;
      received = told.else_received f s;
      last = told.else_last f s;
    }

pub hears : (f : Fair) (a : Advert) → Hears f a
hears f a =
    record {
      clears = heard.heard_clears f a;
      sets = heard.heard_sets f a;
      keeps = λ r. refl;
    }

pub reads : (xs : List ℕ) → Reads xs
unfolding parsed_of
reads xs =
    record {
      whole_exactly = (facts (whole xs), passes (whole xs));
      ttl = refl;
      ringlet = refl;
      address = (refl, refl);
      rate = refl;
      parsed = λ e. rw e;
      not_parsed = λ e. rw e;
    }

pub writes : (a : Advert) → Writes a
writes a =
    record {
      back = λ r t h l z.
          let fits : AdvertFits a = record { ringlet_fits = r; ttl_fits = t; high_fits = h; low_fits = l; rate_fits = z } in
          let found = frame_found (advert_bytes a) a (parse_written a fits) in (found.0, sym found.1);
      bare = written_bare a;
    }
