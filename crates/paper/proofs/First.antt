-- The first condition holds: by each call's own laws in `rpr`, its rows are in order, and each applies exactly when its reason holds.
-- Assumes nothing.
use Prim.Native.Nat.{ℕ, ◌+◌, ◌%◌, ◌<◌}
use mathlib.Core.Bool.{true, not}
use mathlib.Core.List.{List, [], ◌∷◌, ◌++◌}
use mathlib.Core.Logic.{◌↔◌}
use mathlib.Core.Path.{◌≡◌, refl, sym, ap, subst, ◌∙◌}
use native.Mathlib.Omega.{arith}
use lib.Dec.{eqb}
use lib.ListN.{length}
use Rattle.decide.specs.Test.{test}
use Rattle.decide.specs.Refusal.{Fault, first_of, in_order}
use Rattle.decide.proofs.Hops.{out_exactly}
use Rattle.decide.proofs.Given.{in_order_lem}
use Rattle.settings.specs.Range.{settings_ok}
use Rattle.settings.specs.Words.{settings_length, settings_at}
use Rattle.settings.proofs.Range as settings
use Rattle.queue.specs.declared.Frame.{Frame}
use Rattle.queue.specs.declared.Queue.{Queue}
use Rattle.queue.specs.declared.Bounds.{Bounds}
use Rattle.queue.specs.Range.{queue_ok, QueueOk}
use Rattle.queue.proofs.Range.{queue_facts, queue_holds}
use Rattle.flow.proofs.Range as flow
use Rattle.fair.proofs.Range as fair
use Rattle.queue.specs.Queue.{space_of}
use Rattle.queue.proofs.Laws.{count_frames, space_full, space_left}
use Rattle.queue.specs.Frame.{frame_ok, FrameOk, held_ok}
use Rattle.queue.proofs.Word.{frame_facts, frame_holds, held_facts, held_holds}
use Rattle.summary.specs.declared.Summary.{Summary}
use Rattle.summary.specs.Range.{in_range, InRange}
use Rattle.summary.proofs.Range.{in_range_exactly}
use Rattle.shaper.specs.Limits.{most_events, same_limits}
use Rattle.shaper.proofs.Ranges.{limits_exactly, same_exactly}
use Rattle.ring.specs.Choosing.{bad_size, bad_word, bad_index, bad_code, place_faults, choose_faults}
use Rattle.ring.proofs.Exactly.{size_exactly, word_exactly, index_exactly, code_exactly, no_way_exactly}
use Rattle.wrap.specs.Walking.{bad_home, path_faults}
use Rattle.wrap.proofs.Exactly.{home_exactly}
use Rattle.advert.specs.Frame.{advert_length, whole, advert_in}
use Rattle.credits.specs.declared.Way.{Way}
use Rattle.credits.specs.declared.Way.TheVariants.{ClassA, Excess}
use Rattle.credits.specs.Which.{permits_all}
use Rattle.credits.specs.Short.{short_all, AllExceed}
use Rattle.credits.specs.Way.{needs_of, mark_of}
use Rattle.credits.proofs.Ways.{way_a}
use Rattle.credits.proofs.Short.{short_least, tried_excess}
use Rattle.flow.specs.declared.Line.{Line}
use Rattle.flow.specs.declared.Line.TheVariants.{Control}
use Rattle.flow.specs.Parts.{queue_of, capacity_of, bounds_of}
use Rattle.flow.specs.Offer.{queue_for, control_frame}
use Rattle.flow.proofs.Held.{staged}
use Rattle.heard.specs.Range.{ttl_ok, hops_of}
use Rattle.heard.specs.Frame.{own_ringlet, own_address}
use Rattle.fair.proofs.Count.{over_exactly}
use Rattle.station.specs.Range.{station_ok}
use Rattle.station.specs.Calls.{flags_ok, range_fault}
use Rattle.station.specs.Offers.{given_frame, way_for, over_for}
use Rattle.station.proofs.Range as range
use Rattle.station.proofs.Short.{short_denied}
use Rattle.layout.specs.Layout.{station_length, station_at}
use Rattle.layout.specs.Reading.{reading_length}
use Rattle.sheet.specs.Sheet.{sheet_length, summary_at}
use Rattle.rpr.specs.Shape.{other_length_of, Bears}
use Rattle.rpr.specs.Calls.{join_rows, join_answer, join_after, settle_rows, settle_answer}
use Rattle.rpr.specs.Ways.{choose_answer, path_answer}
use Rattle.rpr.specs.Station.{start_rows, tick_rows, offer_rows, offer_client_rows, select_rows, age_rows, read_frame_rows, write_frame_rows, show_rows}
use Rattle.rpr.specs.Station.{start_answer, start_after, tick_answer, tick_after, offer_answer, offer_after, age_answer, age_after, select_answer, select_after}
use Rattle.rpr.specs.Station.{offer_client_answer, offer_client_after, offer_transit_answer, offer_transit_after, offer_control_answer, offer_control_after}
use Rattle.rpr.specs.Station.{read_frame_answer, read_frame_after, write_frame_answer, write_frame_after, show_answer, show_after}
use Rattle.rpr.proofs.Promises as records
use Rattle.rpr.proofs.Ways as ways
use Rattle.rpr.proofs.Station as station
use Rattle.paper.specs.Reasons.{RefusedWhen, refused, passed, OtherLength, StationOut, start_refused, tick_refused, offer_refused, control_refused, client_refused, station_refused}
use Rattle.paper.specs.Reasons.{read_refused, room_refused, Spaces, CarriedOut, place_refused, choose_refused, path_refused, join_refused, settle_refused}
use Rattle.paper.specs.Acts.{YesNo}
use Rattle.paper.specs.First.{Refuses, RefusesLent, ReturnsShort, RefusesClient, Tested, Condition1}
use Rattle.paper.proofs.Earliest.{refuses_record}
use Rattle.paper.proofs.Rolling.{refuses_roll, refuses_unroll}
use Rattle.paper.proofs.Heartbeats.{refuses_heartbeat}
use Rattle.paper.proofs.Reasons.{refuses_alone, Meant, none, row, tried, denies, faulted, tests, tested, equal, below, both_exactly, flags_exactly}

-- ---- by the rows

by_rows : {given : ℕ → Type 0} {byte : ℕ} (rows : List Fault) → byte ≡ first_of rows → in_order rows ≡ true → Meant rows given → given byte
by_rows {given} {byte} rows is ordered meant = subst given (sym (is ∙ in_order_lem rows ordered)) (tried meant)

refuses : {given : ℕ → Type 0} {answer : ℕ} (rows : List Fault) → Bears (first_of rows) answer → in_order rows ≡ true → Meant rows given → Refuses given answer
refuses rows bears ordered meant = record { number = by_rows rows bears.byte_0 ordered meant; alone = refuses_alone bears }

lent : {given : ℕ → Type 0} {answer : ℕ} {before after : List ℕ} (rows : List Fault) → Bears (first_of rows) answer × (0 < first_of rows → after ≡ before)
    → in_order rows ≡ true → Meant rows given → RefusesLent given answer before after
lent rows leaves ordered meant =
    record {
      refuses = refuses rows leaves.0 ordered meant;
      stays = λ p. leaves.1 (subst (λ (n : ℕ). 0 < n) leaves.0.byte_0 p);
    }

-- ---- each row and its reason

-- a slice of another length
long : (n : ℕ) (xs : List ℕ) → (not (eqb (length xs) n) ≡ true) ↔ OtherLength n xs
long n xs = denies (eqb (length xs) n) (equal (length xs) n)

-- a lent station outside its range
out : (xs : List ℕ) → (not (test (station_ok (station_at xs))) ≡ true) ↔ StationOut xs
out xs = denies (test (station_ok (station_at xs))) (range.in_range_facts (station_at xs), range.facts_in_range (station_at xs))

-- a frame outside its range
frame_out : (b : Bounds) (x : Frame) → (not (test (frame_ok b x)) ≡ true) ↔ (FrameOk b x → ⊥)
frame_out b x = denies (test (frame_ok b x)) (tested (frame_ok b x) (frame_facts b x, frame_holds b x))

flags_out : (a b c : ℕ) → (not (test (flags_ok a b c)) ≡ true) ↔ (YesNo a × YesNo b × YesNo c → ⊥)
flags_out a b c = denies (test (flags_ok a b c)) (tested (flags_ok a b c) (flags_exactly a b c))

-- ---- the station's calls

module _ (xs : List ℕ) where
  -- rows that begin with the station's length and its range
  on_station : {others : ℕ → Type 0} {fs : List Fault} → Meant fs others
      → Meant (other_length_of station_length xs ∷ range_fault (station_at xs) ∷ fs) (RefusedWhen 2 (OtherLength station_length xs) (RefusedWhen 1 (StationOut xs) others))
  on_station rest = row (long station_length xs) (row (out xs) rest)

  start : (settings : List ℕ) → RefusesLent (start_refused settings xs) (start_answer settings xs) xs (start_after settings xs)
  start given =
      let s = settings_at given 0 in
      lent (start_rows given xs) (station.start_leaves given xs) refl
      (row (long settings_length given)
      (row (long station_length xs)
      (row (denies (test (settings_ok s)) (settings.in_range_facts s, settings.facts_in_range s))
      none)))

  tick : (a b c : ℕ) → RefusesLent (tick_refused xs a b c) (tick_answer xs a b c) xs (tick_after xs a b c)
  tick a b c = lent (tick_rows xs a b c) (station.tick_leaves xs a b c) refl (on_station (row (flags_out a b c) none))

  -- a frame into a queue
  offer : (l : Line) (x : Frame) → RefusesLent (offer_refused xs l x) (offer_answer xs l x) xs (offer_after xs l x)
  offer l x =
      let st = station_at xs in
      lent (offer_rows xs l x) (station.offer_leaves xs l x) refl
      (on_station
      (row (frame_out (bounds_of st.settings) x)
      (row (out_exactly st.settings.site.stations x.hops)
      (row (below (space_of (queue_of st.flow l) (capacity_of st.settings l)) x.size)
      none))))

  transit : (class size hops eligible : ℕ)
      → RefusesLent (offer_refused xs (queue_for (station_at xs).settings class) (given_frame class size hops eligible)) (offer_transit_answer xs class size hops eligible) xs
      (offer_transit_after xs class size hops eligible)
  unfolding offer_transit_answer offer_transit_after
  transit class size hops eligible = offer (queue_for (station_at xs).settings class) (given_frame class size hops eligible)

  -- a control frame has 1 hop, and every ring 2 stations or more: no 13
  never_13 : (size n : ℕ) → offer_refused xs Control (control_frame size) n → control_refused xs size n
  never_13 size n (refused a e) = refused a e
  never_13 size n (passed a (refused b e)) = passed a (refused b e)
  never_13 size n (passed a (passed b (refused c e))) = passed a (passed b (refused c e))
  never_13 size n (passed a (passed b (passed c (refused d e)))) = absurd (b (λ ok. omega (arith, d, ok.settings.of_site.stations_least)))
  never_13 size n (passed a (passed b (passed c (passed d rest)))) = passed a (passed b (passed c rest))

  control : (size : ℕ) → RefusesLent (control_refused xs size) (offer_control_answer xs size) xs (offer_control_after xs size)
  unfolding offer_control_answer offer_control_after
  control size =
      let said = offer Control (control_frame size) in
      record { refuses = record { number = never_13 size _ said.refuses.number; alone = said.refuses.alone }; stays = said.stays }

  not_13 : (size n : ℕ) → control_refused xs size n → n ≡ 13 → ⊥
  not_13 size n (refused a e) is = omega (arith, e, is)
  not_13 size n (passed a (refused b e)) is = omega (arith, e, is)
  not_13 size n (passed a (passed b (refused c e))) is = omega (arith, e, is)
  not_13 size n (passed a (passed b (passed c (refused d e)))) is = omega (arith, e, is)
  not_13 size n (passed a (passed b (passed c (passed d e)))) is = omega (arith, e, is)

  module _ (class size hops : ℕ) where
    abbrev told : ℕ
    told = offer_client_answer xs class size hops

    client_number : client_refused xs class size hops (told % 256)
    client_number =
        let st = station_at xs in
        let way = way_for st class in
        let permits = permits_all st.settings st.flow.credits (needs_of way) in
        by_rows (offer_client_rows xs class size hops) (station.offer_client_leaves xs class size hops).0.byte_0 refl
        (on_station
        (row (frame_out (bounds_of st.settings) (given_frame class size hops 0))
        (row (out_exactly st.settings.site.stations hops)
        (row (staged st.flow)
        (row (denies permits (λ e. e, λ e. e))
        (row (both_exactly (eqb (mark_of way) 1) (over_for st size hops) (equal (mark_of way) 1) (over_exactly st.fair size hops))
        none))))))

    -- 6 returns the least amount for the shapers of the way that was tried
    short_for_lem : (way : Way) {exceed : ℕ → Type 0} → told % 256 ≡ 6 → way_for (station_at xs) class ≡ way
        → ((x : ℕ) → AllExceed (station_at xs).settings (station_at xs).flow.credits x (needs_of way) ↔ exceed x) → ReturnsShort exceed told
    short_for_lem way e is same =
        let s = (station_at xs).settings in
        let c = (station_at xs).flow.credits in
        let says = rw is at (station.offer_client_short xs class size hops e) in
        let least = short_least s c (needs_of way) in
        record {
          short = short_all s c (needs_of way);
          bytes = says.bytes;
          least = λ x. (λ h. (same x).0 ((least x).1 h), λ h. (least x).0 ((same x).1 h));
          fits = (says.least, says.most);
        }

    excess : told % 256 ≡ 6 → (class ≡ 0 → ⊥) → way_for (station_at xs) class ≡ Excess
    excess e n =
        let st = station_at xs in
        tried_excess st.settings st.flow.credits class n (short_denied st class size hops (station.offer_client_six xs class size hops e))

    client : RefusesClient xs class size hops told (offer_client_after xs class size hops)
    client =
        let leaves = station.offer_client_leaves xs class size hops in
        let st = station_at xs in
        let given : 0 < told % 256 → 0 < first_of (offer_client_rows xs class size hops) = subst (λ (n : ℕ). 0 < n) leaves.0.byte_0 in
        record {
          number = client_number;
          short_a = λ e a. short_for_lem ClassA e (ap (way_for st) a ∙ way_a st.settings st.flow.credits) (λ x. (λ h. h.0, λ h. (h, tt)));
          short_excess = λ e n. short_for_lem Excess e (excess e n) (λ x. (λ h. (h.0, h.1.0), λ h. (h.0, (h.1, tt))));
          alone = λ p n. leaves.0.others (given p) (λ s. n (leaves.0.byte_0 ∙ s)) ∙ ap (λ (m : ℕ). m ∷ 0 ∷ 0 ∷ 0 ∷ 0 ∷ 0 ∷ 0 ∷ 0 ∷ []) (sym leaves.0.byte_0);
          stays = λ p. leaves.1 (given p);
        }

  selected : RefusesLent (station_refused xs) (select_answer xs) xs (select_after xs)
  selected = lent (select_rows xs) (station.select_leaves xs) refl (on_station none)

  aged : RefusesLent (station_refused xs) (age_answer xs) xs (age_after xs)
  aged = lent (age_rows xs) (station.age_leaves xs) refl (on_station none)

  -- a fairness frame: its shape and its ringlet bit before the station's range, then its ttl, its hops and its address
  heard : (frame : List ℕ) → RefusesLent (read_refused xs frame) (read_frame_answer xs frame) xs (read_frame_after xs frame)
  heard frame =
      let own = (station_at xs).settings in
      let a = advert_in frame in
      lent (read_frame_rows xs frame) (station.read_frame_leaves xs frame) refl
      (row (long station_length xs)
      (row (denies (test (whole frame)) (tests (whole frame)))
      (row (tests (own_ringlet own a))
      (row (out xs)
      (row (denies (test (ttl_ok a.ttl)) (tests (ttl_ok a.ttl)))
      (row (out_exactly own.site.stations (hops_of a.ttl))
      (row (tests (own_address own a))
      none)))))))

  module _ (room : List ℕ) where
    written : RefusesLent (room_refused advert_length xs room) (write_frame_answer xs room) room (write_frame_after xs room)
    written =
        lent (write_frame_rows xs room) (station.write_frame_leaves xs room) refl
        (row (long station_length xs) (row (long advert_length room) (row (out xs) none)))

    shown : RefusesLent (room_refused reading_length xs room) (show_answer xs room) room (show_after xs room)
    shown =
        lent (show_rows xs room) (station.show_leaves xs room) refl
        (row (long station_length xs) (row (long reading_length room) (row (out xs) none)))

-- how much room a queue in range has
spaces : (b : Bounds) (capacity : ℕ) (q : Queue) → QueueOk b capacity q → Spaces capacity q
spaces b capacity q ok =
    let frames = count_frames ok in
    record {
      full = λ e. space_full q capacity (omega arith);
      left = λ h. let x = space_left q capacity (omega arith) in omega (arith, ok.held, ok.most);
    }

-- ---- the ring's calls

module _ (stations own target links : ℕ) where
  -- the rows of a place on a ring, and then others
  placed : {others : ℕ → Type 0} {fs : List Fault} → Meant fs others
      → Meant (place_faults stations own target links ++ fs) (place_refused stations own target links others)
  placed rest =
      row (faulted (test (bad_size stations)) (size_exactly stations))
      (row (faulted (test (bad_word stations links)) (word_exactly stations links))
      (row (faulted (test (bad_index stations own target)) (index_exactly stations own target))
      rest))

  misplaced : place_refused stations own target links CarriedOut (first_of (place_faults stations own target links))
  misplaced = subst (place_refused stations own target links CarriedOut) (sym (in_order_lem (place_faults stations own target links) refl)) (tried (placed none))

  chosen : (side protection ring : ℕ)
      → Refuses (choose_refused stations own target links side protection ring) (choose_answer stations own target links side protection ring)
  chosen side protection ring =
      refuses (choose_faults stations own target links side protection ring) (ways.choose_leaves stations own target links side protection ring) refl
      (placed
      (row (faulted (test (bad_code side protection ring)) (code_exactly side protection ring))
      (row (no_way_exactly stations own target links protection)
      none)))

  walked : (home : ℕ) → Refuses (path_refused stations own target links home) (path_answer stations own target links home)
  walked home =
      refuses (path_faults stations own target links home) (ways.path_leaves stations own target links home) refl
      (placed (row (faulted (test (bad_home home)) (home_exactly home)) none))

-- ---- summaries

summary_out : (s : Summary) → (not (in_range s) ≡ true) ↔ (InRange s → ⊥)
summary_out s = denies (in_range s) (in_range_exactly s)

joined : (xs ys room : List ℕ) → RefusesLent (join_refused xs ys room) (join_answer xs ys room) room (join_after xs ys room)
joined xs ys room =
    let a = summary_at xs in
    let b = summary_at ys in
    lent (join_rows xs ys room) (records.join_leaves xs ys room) refl
    (row (long sheet_length xs)
    (row (long sheet_length ys)
    (row (long sheet_length room)
    (row (summary_out a)
    (row (summary_out b)
    (row (denies (test (same_limits a.limits b.limits)) (same_exactly a.limits b.limits))
    (row (below most_events (a.events + b.events))
    none)))))))

settled : (xs : List ℕ) (start : ℕ) → Refuses (settle_refused xs start) (settle_answer xs start)
settled xs start =
    refuses (settle_rows xs start) (records.settle_leaves xs start) refl
    (row (long sheet_length xs) (row (summary_out (summary_at xs)) (row (below (summary_at xs).limits.hi start) none)))

-- ---- together

ranges_tested : Tested
ranges_tested =
    record {
      limits = limits_exactly;
      summary = in_range_exactly;
      settings = λ s. (settings.in_range_facts s, settings.facts_in_range s);
      frame = λ b x. tested (frame_ok b x) (frame_facts b x, frame_holds b x);
      held = λ b x. tested (held_ok b x) (held_facts b x, held_holds b x);
      no_frame = λ b. tt;
      a_frame = λ b x xs. (λ h. h, λ h. h);
      age_coef = λ x. (λ h. h, λ h. h);
      coef = λ x. (λ h. h, λ h. h);
      queue = λ b capacity q. tested (queue_ok b capacity q) (queue_facts b capacity q, queue_holds b capacity q);
      flow = λ s f. (flow.in_range_facts s f, flow.facts_in_range s f);
      fair = λ s f. (fair.in_range_facts s f, fair.facts_in_range s f);
      station = λ st. (range.in_range_facts st, range.facts_in_range st);
    }

pub first_condition : Condition1
first_condition =
    record {
      bounds = (refl, refl, refl, refl);
      lengths = (refl, refl, refl, refl, omega arith);
      hops = λ h. (λ p. p, λ p. p);
      tested = ranges_tested;
      start = λ settings xs. start xs settings;
      tick = tick;
      offer_client_lem = client;
      offer_transit_lem = transit;
      offer_control_lem = control;
      control_in_ring = λ xs size. not_13 xs size _ (control xs size).refuses.number;
      space = spaces;
      select = selected;
      age = aged;
      read_frame_lem = heard;
      write_frame_lem = written;
      show = shown;
      choose = chosen;
      place = misplaced;
      path = walked;
      summarize = refuses_record;
      join = joined;
      settle = settled;
      roll = refuses_roll;
      unroll = refuses_unroll;
      heartbeat = refuses_heartbeat;
    }
