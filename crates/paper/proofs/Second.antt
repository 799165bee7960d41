-- The rules hold, by the laws beside each definition.
-- Assumes nothing.
use Prim.Native.Nat.{ℕ, ◌*◌, ◌≤◌}
use mathlib.Core.Bool.{true, true≢false}
use mathlib.Core.List.{List}
use mathlib.Core.Logic.{◌⊎◌, ◌↔◌}
use mathlib.Core.Path.{◌≡◌, refl, sym, ◌∙◌}
use native.Mathlib.Omega.{arith}
use borrow.Author.Tests.{leb-true, le-leb}
use lib.ListN.{length, take}
use Rattle.decide.specs.Test.{Test, test, Holds, facts, passes}
use Rattle.settings.specs.declared.Settings.{Settings}
use Rattle.flow.specs.declared.Flow.{Flow}
use Rattle.selection.specs.Select.{control_ready, primary_ready, needy, stage_ready, secondary_ready}
use Rattle.selection.proofs.Ready as ready
use Rattle.selection.proofs.Select as select
use Rattle.selection.proofs.Frames.{select_moves}
use Rattle.rates.proofs.Steady as steady
use Rattle.fair.proofs.ReadBack.{frame_read_back}
use Rattle.ring.specs.declared.Way.{Way}
use Rattle.ring.specs.Choosing.{reaches_of, Placed}
use Rattle.ring.proofs.Distances.{between}
use Rattle.ring.proofs.Hops.{arrives, not_before_lem, run_on, run_ends}
use Rattle.ring.proofs.Links.{joins_next, last_joins, last_link, both_ends}
use Rattle.ring.proofs.Bits.{ahead_exactly}
use Rattle.ring.proofs.Rows as ring
use Rattle.ring.proofs.Pairs.{pair_together}
use Rattle.wrap.proofs.Courses as course
use Rattle.wrap.specs.Walking.{at_home, course_of, side_of, journey, path_of}
use Rattle.wrap.proofs.Answers.{found}
use Rattle.wrap.proofs.Exactly.{home_exactly}
use Rattle.ring.proofs.Faults.{placed_free}
use Rattle.wrap.proofs.Early.{delivered_early, one_hop_more}
use Rattle.wire.specs.Wire.{Bytes}
use Rattle.station.specs.Range.{StationOk}
use Rattle.station.specs.Steady.{Rate}
use Rattle.layout.specs.Layout.{station_length}
use Rattle.layout.specs.Reading.{reading_length}
use Rattle.rpr.specs.Lent.{Lending, NoNewStart, station_in}
use Rattle.rpr.specs.Says.{Keeps}
use Rattle.rpr.specs.Steady.{SteadyIn}
use Rattle.rpr.proofs.Steady.{steady_told, steady_told_always}
use Rattle.rpr.proofs.Hops.{keeps_ringed, ring_told}
use Rattle.rpr.proofs.Method.{lent_rate, rate_told, free_told}
use Rattle.rpr.proofs.Told.{credit_of_told}
use Rattle.rpr.proofs.Pairs as told
use Rattle.rpr.proofs.Kept.{kept_lent}
use Rattle.paper.specs.Second.{Ready, Selects, Steadies, TellsSteady, Joins, Reaches, Wraps, Chooses, Sends, Condition2}
use Rattle.paper.proofs.Rules.{ticks, charges, lacks, enters, counts, tells, reads, writes, hears}
use Rattle.station.proofs.Interval.{holds_till_interval}
use Rattle.queue.proofs.Word.{word_frame, frame_fits, word_not_empty}
use Rattle.paper.proofs.Reasons.{tests, flags_exactly}
use Rattle.queue.specs.Frame.{BoundsOk}
use Rattle.station.proofs.Kept.{range_kept}
use Rattle.paper.proofs.Names.{names}
use Rattle.paper.proofs.LentNames.{lent_names}
use Rattle.paper.proofs.Acts.{some_start, starts, acts, traces, reads_off}
use Rattle.paper.proofs.ByValue.{lost, unfit, listens}
use Rattle.paper.proofs.Intervals.{shares, ages, rows, apart}
use Rattle.paper.proofs.Host.{lays, hosts, begins, settings_words, choice_told, choice_refused, path_told, path_refused_lem}

-- a test holds exactly when its fact does
held : (t : Test) {A : Type 0} → (test t ≡ true) ↔ A → Holds t ↔ A
held t exactly = (λ h. exactly.0 (passes t h), λ a. facts t (exactly.1 a))

is_ready : (s : Settings) (f : Flow) → Ready s f
is_ready s f =
    record {
      control = λ x xs e. held (control_ready s f) (ready.control_ready_exactly s f x xs e);
      no_control = λ e h. true≢false (sym (passes (control_ready s f) h) ∙ ready.control_none s f e);
      primary = held (primary_ready f) (ready.primary_ready_exactly s f);
      needy_secondary = held (needy s f) (ready.needy_exactly s f);
      needy_tested = tests (needy s f);
      stage = held (stage_ready f) (ready.stage_ready_exactly s f);
      secondary = held (secondary_ready s f) (ready.secondary_ready_exactly s f);
    }

selects : (s : Settings) (f : Flow) → Selects s f
selects s f =
    record {
      ready = is_ready s f;
      control = (select.control_exactly s f).whenever;
      primary = λ c p. (select.primary_exactly s f).whenever (c, p);
      needy_secondary = select.needy_goes s f;
      stage = λ c p n g. (select.stage_exactly s f).whenever (c, (p, (n, g)));
      secondary = select.secondary_goes s f;
      nothing = λ c p n g d. (select.nothing_exactly s f).whenever (c, (p, (n, (g, d))));
      origins = (refl, refl, refl, refl, refl);
      no_frame = refl;
      m_charged = refl;
      d_charged = refl;
      uncharged = (refl, refl, refl);
      moves = select_moves;
    }

steadies : (coef rate s : ℕ) → Steadies coef rate s
steadies coef rate s =
    record {
      stands = steady.steady_stands coef rate s;
      rises = steady.steady_rises coef rate s;
      falls = steady.steady_falls coef rate s;
      not_above = λ p. (steady.steady_not_past coef p rate s).0;
      not_below = λ p. (steady.steady_not_past coef p rate s).1;
      arrives = λ p k n. steady.steady_arrives coef p rate k n s;
      arrives_always = λ p n. steady.steady_arrives_always coef p rate n s;
      within = steady.shown_within coef s rate;
      range = λ p. steady.shown_range coef s p;
    }

-- the station in the memory is kept there
tells_steady : (mem room : List ℕ) → Bytes (take station_length mem) → length (take station_length mem) ≡ station_length → StationOk (station_in mem)
    → length room ≡ reading_length → (calls : List Lending) → NoNewStart mem calls → (k : Rate) (rate : ℕ) → SteadyIn room k rate mem calls
    → TellsSteady room mem calls k rate
tells_steady mem room bytes whole ok h calls none k rate at =
    let keeps : Keeps (take station_length mem) (station_in mem) = record { bytes = bytes; whole = whole; holds = refl; in_range_lem = ok } in
    record { soon = steady_told k rate room h mem calls keeps none at; always = steady_told_always k rate room h mem calls keeps none at }

joins : (stations : ℕ) → Joins stations
joins stations =
    record {
      next = joins_next stations;
      last = λ some. ((last_link stations some).0, last_joins stations some);
      both_ends = λ way. both_ends way stations;
      bit = λ way links at. ahead_exactly way stations links at;
    }

reached : (stations own target links : ℕ) → Placed stations own target links → Reaches stations own target links
unfolding reaches_of
reached stations own target links place =
    let b = between place in
    record {
      arrives = arrives stations own target b place.differ;
      not_before_lem = not_before_lem stations own target b place.differ;
      unbroken = λ way n. run_on way stations links stations own n;
      broken = λ way. run_ends way stations links stations own;
      reaches = λ way. (leb-true _ _, le-leb _ _);
    }

walks : (stations links target : ℕ) (home : Way) → Wraps stations links target home
walks stations links target home =
    record {
      moves = course.moves_home stations links target home;
      turns = course.turns_away stations links target home;
      moves_opposite = course.moves_opposite stations links target home;
      turns_back = course.turns_back stations links target home;
      delivered = course.delivered_there stations links target home;
      used = course.used_home stations links target home;
      used_opposite = course.used_opposite stations links target home;
      stuck = course.stuck stations links target home;
    }

chooses : (stations own target links ring : ℕ) → Placed stations own target links → ring ≤ 1 → Chooses stations own target links ring
chooses stations own target links r place coded =
    record {
      that = ring.protected_reaches stations own target links r place coded;
      other = ring.protected_other stations own target links r place coded;
      neither = ring.protected_none stations own target links r place coded;
      regardless = ring.unprotected_that stations own target links r place coded;
      shorter = ring.default_shorter stations own target links r place coded;
      only = ring.default_only stations own target links r place coded;
      tie = ring.default_tie stations own target links r place coded;
      none = ring.default_none stations own target links r place coded;
      unprotected_tie = ring.unprotected_tie stations own target links r place coded;
      unprotected_shorter = ring.unprotected_shorter stations own target links r place coded;
    }

sends : (stations own target links ring : ℕ) → Sends stations own target links ring
sends stations own target links r =
    record {
      side = ring.side_unspecified stations own target links r;
      protection = ring.protection_unspecified stations own target links r;
      steering = λ way p. ring.steering way stations own target p;
      wrapping = λ way. ring.wrapping_protected way stations own target;
      wrapping_unprotected = λ way. ring.wrapping_unprotected way stations own target;
    }

-- no row of a path applies between two places of a ring
walked : (stations own target links home : ℕ) → Placed stations own target links → (home ≡ 1) ⊎ (home ≡ 2)
    → let course = course_of stations links target (side_of home) (2 * stations) at_home own in
    path_of stations own target links home ≡ journey course.delivered (length course.links)
walked stations own target links home place side =
    sym (found stations own target links home (placed_free stations own target links place) ((home_exactly home).1 side))

pub second_condition : Condition2
second_condition =
    record {
      names = names;
      lent_names = lent_names;
      credits = credit_of_told;
      range = kept_lent;
      started = begins;
      settings = settings_words;
      hosts = hosts;
      laid = lays;
      choice_told = choice_told;
      choice_refused = choice_refused;
      pair_told = told.pair_together;
      path_refused_lem = path_refused_lem;
      path_told = path_told;
      events = traces;
      reads_off = reads_off;
      some_start = some_start;
      starts = starts;
      calls = λ st ok. acts ok;
      kept = λ st ok c. range_kept ok c;
      lost = lost;
      unfit = λ st. unfit;
      listening = listens;
      ticks = λ st ok a b c flags. ticks st ok a b c ((flags_exactly a b c).1 flags);
      charges = charges;
      lacks = lacks;
      entry = enters;
      words = λ b x most ok. let held : BoundsOk b = record { mtu_most = most } in (word_frame x (frame_fits held ok), λ e. let some = word_not_empty held ok in omega arith);
      selection = selects;
      counting = counts;
      rates = shares;
      aggressive = ages;
      conservative = rows;
      changes_apart = apart;
      conservative_within = λ settings mem bytes z calls none room h. (rate_told settings mem bytes z calls none room h, free_told settings mem bytes z calls none room h);
      lent_conservative_within = λ mem st k. lent_rate mem k;
      steady = steadies;
      steady_told = tells_steady;
      within_ring = ring_told;
      lent_within_ring = λ mem st k. keeps_ringed mem k;
      holding = holds_till_interval;
      telling = tells;
      hearing = hears;
      reading = reads;
      writing = writes;
      sending = sends;
      choice = chooses;
      pairs = pair_together;
      links = joins;
      reach = reached;
      walk = walks;
      path = walked;
      early = λ stations own target links home place. delivered_early stations links target home (2 * stations) own place.station;
      limit_unseen = λ stations own target links home place. one_hop_more stations links target home own place.station;
      frames = frame_read_back;
    }
