-- What the host is told and finds, by the laws of `rpr`: byte 0 is the number of the station's own rows behind the length, and the bytes that a call leaves hold
-- the station that its step left. Assumes nothing.
use Rattle.std.specs.Prelude.{Result}
use Prim.Native.Nat.{ℕ}
use mathlib.Core.Bool.{true}
use mathlib.Core.List.{List, [], ◌∷◌, ◌++◌}
use mathlib.Core.Path.{◌≡◌, refl, sym, ap, subst, ◌∙◌}
use native.Mathlib.Omega.{arith}
use lib.ListN.{length}
use Rattle.decide.specs.Test.{split, ◌<?◌}
use Rattle.decide.specs.Refusal.{Fault, first_of, ranked, RefusedExactly}
use Rattle.decide.proofs.Cases.{by_cases}
use Rattle.decide.proofs.Tests.{failing}
use Rattle.advert.specs.Frame.{advert_length}
use Rattle.heard.specs.Frame.{own_address}
use Rattle.fair.specs.Advertise.{told_of}
use Rattle.decide.proofs.Given.{refused_exactly}
use Rattle.decide.proofs.Refused.{carried_by}
use Rattle.wire.specs.Wire.{digits, Bytes}
use Rattle.settings.specs.Range.{SettingsOk}
use Rattle.settings.specs.Words.{settings_length, settings_at}
use Rattle.settings.proofs.Range as settings
use Rattle.flow.specs.declared.Line.TheVariants.{Control}
use Rattle.flow.specs.Offer.{queue_for, control_frame}
use Rattle.station.specs.declared.Station.{Station}
use Rattle.station.specs.declared.Selected.{Selected}
use Rattle.station.specs.declared.Client.{Client}
use Rattle.shaper.specs.declared.Refused.{Refused}
use Rattle.shaper.specs.Refused.{number_said, detail_said, afterwards}
use Rattle.station.specs.Answers.{Done, origin_said, frame_said, rest_after}
use Rattle.station.specs.Calls.{tick_faults, select_faults, age_faults, tick_of, select_of, age_of}
use Rattle.station.specs.Offers.{given_frame, offer_faults, offer_client_faults, staging, taken_of, mark_told, station_left, offer_client_of, offer_transit_of, offer_control_of}
use Rattle.station.specs.Hear.{hear_faults, changed_of, hear_of}
use Rattle.station.proofs.Range.{facts_in_range}
use Rattle.station.proofs.Calls.{select_done, age_done}
use Rattle.station.proofs.Short.{client_short}
use Rattle.station.specs.History as history
use Rattle.station.proofs.Refused.{call_exactly}
use Rattle.layout.specs.Layout.{station_length, station_at}
use Rattle.rpr.specs.Shape.{answer_of, other_length_of, Bears}
use Rattle.rpr.specs.Station.{start_answer, tick_answer, age_answer, age_after, offer_client_answer, offer_transit_answer, offer_control_answer, select_answer, read_frame_answer, read_frame_after, write_frame_after, select_rows}
use Rattle.rpr.specs.Lent.{left_by, tick, offer_client, offer_transit, offer_control, select, age, read_frame}
use Rattle.rpr.proofs.Shape.{right_length}
use Rattle.rpr.proofs.Station as laws
use Rattle.rpr.specs.Says.{Keeps}
use Rattle.rpr.proofs.Step.{call_keeps, start_keeps}
use Rattle.rpr.proofs.Rooms.{show_done, write_frame_done, written_read}
use Rattle.rpr.proofs.Reading.{show_words}
use Rattle.rpr.proofs.Given.{start_done}
use Rattle.layout.proofs.Round.{station_length_lem, fits_slotted, state_of_bytes, station_bytes_lem, station_fits, bytes_of_state}
use Rattle.rpr.specs.Ways.{choice_answer, choose_answer, moved_answer, path_answer}
use Rattle.rpr.proofs.Ways.{choose_bytes, path_bytes}
use Rattle.rpr.proofs.Chosen.{nothing_chosen}
use Rattle.paper.specs.Host.{Serves, nothing_more, Hosts, SettingsWords, Begins, ChoiceTold, ChoiceRefused, PathTold, PathRefused, Lays}

-- rows have one number
exact_number : (fs : List Fault) (m n : ℕ) → RefusedExactly m fs → RefusedExactly n fs → m ≡ n
exact_number fs m n p q =
    by_cases (split (0 <? m))
    (λ h. sym (q.is_given m h (p.has_cause m h refl)))
    (λ h. by_cases (split (0 <? n)) (λ k. p.is_given n k (q.has_cause n k refl)) (λ k. omega arith))

module _ (xs : List ℕ) (k : Keeps xs (station_at xs)) where
  abbrev st : Station
  st = station_at xs

  -- byte 0 is the number of the rows behind the length
  number_told : {byte n : ℕ} (fs : List Fault) → ranked fs ≡ true → byte ≡ first_of (other_length_of station_length xs ∷ fs) → RefusedExactly n fs → byte ≡ n
  number_told {byte} {n} fs r is exactly =
      is ∙ right_length station_length xs fs k.whole ∙ exact_number fs (first_of fs) n (refused_exactly fs r (first_of fs) refl) exactly

  -- a call that says nothing more
  plainly : {answer n : ℕ} {after : List ℕ} {next : Station} (fs : List Fault) → ranked fs ≡ true → Bears (first_of (other_length_of station_length xs ∷ fs)) answer
      → answer ≡ answer_of (other_length_of station_length xs ∷ fs) 0 → RefusedExactly n fs → Keeps after next → Serves answer after n nothing_more next
  unfolding digits
  plainly {answer} fs r bears is exactly keeps =
      let number = number_told fs r bears.byte_0 exactly in
      record {
        numbered = number;
        says = λ z. ap (λ (a : ℕ). digits 8 a) (laws.carried_said (other_length_of station_length xs ∷ fs) answer 0 bears is (number ∙ z)).1;
        keeps = keeps;
      }

  ticked : (a b c : ℕ) → Serves (tick_answer xs a b c) (left_by (tick a b c) xs) (number_said (tick_of st a b c)) nothing_more (afterwards st (tick_of st a b c))
  unfolding tick_answer
  ticked a b c =
      plainly (tick_faults st a b c) refl (laws.tick_leaves xs a b c).0 refl (call_exactly (history.tick a b c) st) (call_keeps k (tick a b c) _ refl)

  transit : (class size hops eligible : ℕ)
      → let r = offer_transit_of st class size hops eligible in
      Serves (offer_transit_answer xs class size hops eligible) (left_by (offer_transit class size hops eligible) xs) (number_said r) nothing_more (afterwards st r)
  unfolding offer_transit_answer
  transit class size hops eligible =
      let x = given_frame class size hops eligible in
      let l = queue_for (station_at xs).settings class in
      plainly (offer_faults st l x) refl (laws.offer_leaves xs l x).0 refl (call_exactly (history.offer_transit class size hops eligible) st) (call_keeps k (offer_transit class size hops eligible) _ refl)

  control : (size : ℕ)
      → Serves (offer_control_answer xs size) (left_by (offer_control size) xs) (number_said (offer_control_of st size)) nothing_more (afterwards st (offer_control_of st size))
  unfolding offer_control_answer
  control size =
      let x = control_frame size in
      plainly (offer_faults st Control x) refl (laws.offer_leaves xs Control x).0 refl (call_exactly (history.offer_control size) st) (call_keeps k (offer_control size) _ refl)

  aged : Serves (age_answer xs) (left_by age xs) (number_said (age_of st)) nothing_more (afterwards st (age_of st))
  unfolding age_answer
  aged = plainly (age_faults st) refl (laws.age_leaves xs).0 refl (call_exactly history.age st) (call_keeps k age _ refl)

  heard : (frame : List ℕ) (b : Bytes frame)
      → Serves (read_frame_answer xs frame) (left_by (read_frame frame b) xs) (number_said (hear_of st frame)) nothing_more (afterwards st (hear_of st frame))
  unfolding read_frame_answer
  heard frame b =
      plainly (hear_faults st frame) refl (laws.read_frame_leaves xs frame).0 refl (call_exactly (history.hear frame b) st) (call_keeps k (read_frame frame b) _ refl)

  client : (class size hops : ℕ)
      → let r = offer_client_of st class size hops in
      Serves (offer_client_answer xs class size hops) (left_by (offer_client class size hops) xs) (number_said r) (0 ∷ 0 ∷ 0 ∷ mark_told r ∷ 0 ∷ 0 ∷ 0 ∷ []) (station_left st r)
  client class size hops =
      let fs = offer_client_faults st class size hops in
      let number = number_told fs refl (laws.offer_client_leaves xs class size hops).0.byte_0 (call_exactly (history.offer_client class size hops) st) in
      record {
        numbered = number;
        says = λ z.
            let taken = taken_of st (staging st class size hops) in
            let none = exact_number fs _ _ (refused_exactly fs refl _ refl) (call_exactly (history.offer_client class size hops) st) ∙ z in
            let marked = ap (λ (r : Result Client Refused). mark_told r) (carried_by _ taken (first_of fs) none)
            ∙ laws.client_mark xs class size hops (number ∙ z) in
            laws.offer_client_bytes xs class size hops (number ∙ z) ∙ ap (λ (m : ℕ). 0 ∷ 0 ∷ 0 ∷ 0 ∷ m ∷ 0 ∷ 0 ∷ 0 ∷ []) (sym marked);
        keeps = call_keeps k (offer_client class size hops) _ refl;
      }

  -- refused with 6 it is told what the station said beside it
  barred : (class size hops : ℕ)
      → let r = offer_client_of st class size hops in
      number_said r ≡ 6 → digits 8 (offer_client_answer xs class size hops) ≡ (6 ∷ 0 ∷ 0 ∷ 0 ∷ []) ++ digits 4 (detail_said r)
  barred class size hops e =
      (laws.offer_client_short xs class size hops ((client class size hops).numbered ∙ e)).bytes
      ∙ ap (λ (d : ℕ). (6 ∷ 0 ∷ 0 ∷ 0 ∷ []) ++ digits 4 d) (sym (client_short st class size hops e))

  chosen :
      let r = select_of st in
      Serves (select_answer xs) (left_by select xs) 0
      ((origin_said r ∷ (frame_said r).class ∷ (frame_said r).hops ∷ (frame_said r).mark ∷ 0 ∷ []) ++ digits 2 (frame_said r).size) (rest_after st r)
  chosen =
      let done = select_done st (facts_in_range st k.in_range_lem) in
      let number = number_told (select_faults st) refl (laws.select_leaves xs).0.byte_0 (call_exactly history.select st) ∙ ap (λ (r : Result Selected Refused). number_said r) done in
      record {
        numbered = number;
        says = λ z. laws.select_bytes xs number
            ∙ ap (λ (r : Result Selected Refused). (0 ∷ origin_said r ∷ (frame_said r).class ∷ (frame_said r).hops ∷ (frame_said r).mark ∷ 0 ∷ []) ++ digits 2 (frame_said r).size) (sym done);
        keeps = call_keeps k select _ refl;
      }

  -- where nothing goes, nothing is said
  silent : origin_said (select_of st) ≡ 0 → select_answer xs ≡ 0
  unfolding select_answer
  silent z =
      let in_range_lem = facts_in_range st k.in_range_lem in
      let number = chosen.numbered in
      (laws.carried_said (select_rows xs) (select_answer xs) _ (laws.select_leaves xs).0 refl number).1
      ∙ sym (nothing_chosen st in_range_lem (sym (ap origin_said (select_done st in_range_lem)) ∙ z)).0

  read_back : (room : List ℕ) → length room ≡ advert_length → {ys : List ℕ} {t : Station} → Keeps ys t → t.settings.ringlet ≡ st.settings.ringlet
      → t.settings.site.stations ≡ st.settings.site.stations
      → (((told_of st.fair st.settings).high ≡ t.settings.address.high) × ((told_of st.fair st.settings).low ≡ t.settings.address.low) → ⊥)
      → (read_frame_answer ys (write_frame_after xs room) ≡ 0)
      × Keeps (read_frame_after ys (write_frame_after xs room)) (changed_of t (told_of st.fair st.settings))
  read_back room h {ys} {t} j same many other = written_read k room h j same many (failing (own_address t.settings (told_of st.fair st.settings)) other)

  serves : Hosts xs st
  serves =
      record {
        tick = ticked;
        offer_client_lem = client;
        offer_client_short = barred;
        offer_transit_lem = transit;
        offer_control_lem = control;
        select = chosen;
        select_nothing = silent;
        age =
            subst (λ (n : ℕ). Serves (age_answer xs) (age_after xs) n nothing_more (afterwards st (age_of st)))
            (ap (λ (r : Done). number_said r) (age_done st (facts_in_range st k.in_range_lem))) aged;
        read_frame_lem = heard;
        write_frame_lem = write_frame_done k;
        written_read = read_back;
        show = λ room h. ((show_done k room h).0, show_words k room h);
      }

-- Lent bytes that hold a station in range serve it.
pub hosts : (xs : List ℕ) (st : Station) → Keeps xs st → Hosts xs st
hosts xs _ k = subst (Hosts xs) k.holds (serves xs (subst (Keeps xs) (sym k.holds) k))

-- ---- start

pub begins : (settings xs : List ℕ) → Bytes settings → length settings ≡ settings_length → length xs ≡ station_length → SettingsOk (settings_at settings 0)
    → Begins settings xs
unfolding start_answer
begins given xs bytes e f ok =
    let s = settings_at given 0 in
    let z = sym (start_done given xs e f s (settings.facts_in_range s ok)).0 in
    (z, start_keeps given xs bytes z)

pub settings_words : (xs : List ℕ) → SettingsWords xs (settings_at xs 0)
unfolding settings_at
settings_words xs =
    record {
      address = (refl, refl);
      ringlet = refl;
      mtu = refl;
      m = (refl, refl, refl);
      a = (refl, refl, refl);
      b = (refl, refl, refl);
      c = (refl, refl, refl);
      d = (refl, refl, refl);
      queues = (refl, refl, refl, refl);
      rates = (refl, refl, refl, refl);
      coefficients = (refl, refl, refl);
      stations = refl;
      method = (refl, refl, refl);
    }

-- ---- the ring

pub choice_told : ChoiceTold
choice_told stations own target links side protection ring = choose_bytes stations own target links side protection ring

pub path_told : PathTold
path_told stations own target links home = path_bytes stations own target links home

pub choice_refused : ChoiceRefused
unfolding choose_answer
choice_refused stations own target links side protection ring r e = ap choice_answer e

pub path_refused_lem : PathRefused
unfolding path_answer
path_refused_lem stations own target links home r e = ap moved_answer e

-- ---- a station in bytes

pub lays : Lays
lays =
    record {
      back = state_of_bytes;
      again = bytes_of_state;
      whole = λ st fits. station_length_lem st (fits_slotted fits);
      bytes = station_bytes_lem;
      fits = λ xs b e. station_fits xs b;
      keeps = λ xs st. (
        λ k. (k.bytes, k.whole, k.holds, k.in_range_lem),
        λ h. record { bytes = h.0; whole = h.1; holds = h.2; in_range_lem = h.3 },
      );
    }
