-- One call: where the bytes that it is lent are a station's, it answers what the station said and leaves the bytes of the station that the call left, and a
-- start leaves a fresh station or is refused; else it answers 2 and leaves the bytes as they were. Assumes nothing.
use Rattle.std.specs.Prelude.{Result}
use Rattle.decide.proofs.Number.{number_told}
use Rattle.shaper.specs.declared.Refused.{Refused}
use Rattle.shaper.specs.Refused.{number_said}
use Prim.Native.Nat.{ℕ, ◌+◌, ◌%◌, ◌<◌}
use mathlib.Core.Bool.{false}
use mathlib.Core.List.{List, [], ◌∷◌}
use mathlib.Core.Logic.{◌⊎◌, inl, inr}
use mathlib.Core.Path.{◌≡◌, refl, sym, ap, subst, ◌∙◌}
use native.Mathlib.Omega.{arith}
use borrow.Author.Tests.{not-false}
use lib.ListN.{length}
use Rattle.decide.specs.Test.{test, split, ◌≡?◌}
use Rattle.decide.specs.Refusal.{first_of, refused_or}
use Rattle.decide.proofs.Cases.{by_cases, true_or_false}
use Rattle.decide.proofs.Refused.{of_answer, number_by}
use Rattle.wire.specs.Wire.{digits, Bytes}
use Rattle.settings.specs.Range.{settings_ok, SettingsOk}
use Rattle.settings.specs.Words.{settings_at, settings_length}
use Rattle.settings.proofs.Range.{in_range_facts}
use Rattle.settings.proofs.Words.{settings_fit}
use Rattle.queue.specs.declared.Frame.{Frame}
use Rattle.queue.specs.Frame.{frame_of}
use Rattle.station.specs.declared.Station.{Station}
use Rattle.station.specs.Range.{StationOk}
use Rattle.station.specs.Answers.{origin_said, frame_said}
use Rattle.station.specs.Calls.{fresh_of, tick_of, select_of, age_of}
use Rattle.station.specs.declared.Client.{Client}
use Rattle.station.specs.Offers.{offer_client_faults, mark_told, offer_client_of, offer_transit_of, offer_control_of}
use Rattle.station.specs.Hear.{hear_of, tell_of}
use Rattle.station.specs.Show.{show_of}
use Rattle.station.specs.History as station
use Rattle.station.specs.History.{Call, step, after}
use Rattle.station.proofs.Range.{fresh_ok}
use Rattle.station.proofs.Kept.{range_kept}
use Rattle.station.proofs.Refused.{refused_leaves, never_1}
use Rattle.layout.specs.Layout.{station_length, station_at, station_bytes, StationFits}
use Rattle.advert.specs.Frame.{advert_length}
use Rattle.layout.specs.Reading.{reading_length}
use Rattle.layout.proofs.Round.{station_length_lem, fits_slotted, station_bytes_lem, station_fits, state_of_bytes, bytes_of_state}
use Rattle.layout.proofs.Kept.{fits_kept, fresh_fits}
use Rattle.answer.specs.Bytes.{packed, mark_bytes, selected_bytes}
use Rattle.rpr.specs.Shape.{answer_of, after_of}
use Rattle.rpr.specs.Station.{start_rows, start_answer, start_after, tick_answer, tick_after, age_answer, age_after}
use Rattle.rpr.specs.Station.{offer_client_answer, offer_client_after, offer_transit_answer, offer_transit_after, offer_control_answer, offer_control_after}
use Rattle.rpr.specs.Station.{select_answer, select_after, read_frame_answer, read_frame_after, write_frame_answer, show_answer}
use Rattle.rpr.specs.Lent.{LentCall, start, tick, offer_client, offer_transit, offer_control, select, age, read_frame, write_frame, show}
use Rattle.rpr.specs.Lent.{answer_to, left_by, calls_of, StartsWith, NewStart}
use Rattle.rpr.proofs.Shape.{number_alone, first_most, free}
use Rattle.rpr.proofs.Given.{not_whole, not_whole_short, then_not_whole, whole_gives, whole_gives_short, then_whole_gives, done_back, taken_back, chosen_back, told_back, shown_back, start_refused_lem, start_done}
use Rattle.rpr.specs.Says.{Keeps, answer_given, bytes_left, RoomFits, CallSays, StartSays, LentSays}

-- ---- lent other bytes

-- 2, and the bytes are as they were
pub lent_short : (xs : List ℕ) → (length xs ≡ station_length → ⊥) → (c : LentCall) → (2 ≡ answer_to c xs) × (xs ≡ left_by c xs)
unfolding start_answer start_after tick_answer tick_after offer_client_answer offer_client_after offer_transit_answer offer_transit_after offer_control_answer offer_control_after select_answer select_after age_answer age_after read_frame_answer read_frame_after write_frame_answer show_answer
lent_short xs h (start settings b) =
    by_cases (split (length settings ≡? settings_length))
    (λ e. then_not_whole _ xs _ _ _ _ _ settings e h)
    (λ e. not_whole _ settings _ _ _ _ e)
lent_short xs h (tick a b c) = not_whole _ xs _ _ _ _ h
lent_short xs h (offer_client class size hops) = not_whole_short _ xs _ _ _ _ _ h
lent_short xs h (offer_transit class size hops eligible) = not_whole _ xs _ _ _ _ h
lent_short xs h (offer_control size) = not_whole _ xs _ _ _ _ h
lent_short xs h select = not_whole _ xs _ _ _ _ h
lent_short xs h age = not_whole _ xs _ _ _ _ h
lent_short xs h (read_frame frame b) = not_whole _ xs _ _ _ _ h
lent_short xs h (write_frame room) = ((not_whole _ xs _ _ [] [] h).0, refl)
lent_short xs h (show room) = ((not_whole _ xs _ _ [] [] h).0, refl)

-- ---- lent a station's bytes

mark_alone : (m : ℕ) → packed (mark_bytes m) + packed (selected_bytes 0 (frame_of 0)) ≡ packed (mark_bytes m)
unfolding digits
mark_alone m = omega arith

frame_alone : (origin : ℕ) (x : Frame) → packed (mark_bytes 0) + packed (selected_bytes origin x) ≡ packed (selected_bytes origin x)
frame_alone origin x = omega arith

alone_1 : (n said : ℕ) → said % 256 ≡ 0 → refused_or (λ m. m) n said ≡ 1 → n ≡ 1
alone_1 n said low = of_answer _ _ (λ (a : ℕ). a ≡ 1 → n ≡ 1) n (λ z e. absurd (omega arith)) (λ h e. e)

-- 1 is answered by the number 1 alone, by a client's frame too, whose 6 says more
given_1 : (call : Call) (st : Station) → answer_given call st ≡ 1 → (step call st).answer.number ≡ 1
given_1 (station.tick a b c) st = alone_1 _ _ (omega arith)
given_1 (station.offer_client class size hops) st =
    let rows = offer_client_faults st class size hops in
    let number : number_said (offer_client_of st class size hops) ≡ first_of rows = number_by (λ (r : Result Client Refused). number_said r) _ _ number_told refl _ in
    let small = first_most rows refl in
    of_answer _ _ (λ (a : ℕ). a ≡ 1 → number_said (offer_client_of st class size hops) ≡ 1) _ (λ z e. absurd (omega arith)) (λ p e. omega (arith, number, small, e))
given_1 (station.offer_transit class size hops eligible) st = alone_1 _ _ (omega arith)
given_1 (station.offer_control size) st = alone_1 _ _ (omega arith)
given_1 station.select st = alone_1 _ _ (omega arith)
given_1 station.age st = alone_1 _ _ (omega arith)
given_1 (station.hear frame bytes) st = alone_1 _ _ (omega arith)
given_1 station.tell st = alone_1 _ _ (omega arith)
given_1 station.show st = alone_1 _ _ (omega arith)

module _ {c : LentCall} {xs : List ℕ} {st : Station} (call : Call) (is : calls_of c ≡ call ∷ []) where
  called : (RoomFits c → answer_given call st ≡ answer_to c xs) → ((RoomFits c → ⊥) → 2 ≡ answer_to c xs) → bytes_left call xs st ≡ left_by c xs → LentSays c xs st
  called a o l = inr (record { call = call; is = is; answers = a; other_room = o; leaves = l })

  roomless : RoomFits c → (answer_given call st ≡ answer_to c xs) × (bytes_left call xs st ≡ left_by c xs) → LentSays c xs st
  roomless fits g = called (λ h. g.0) (λ n. absurd (n fits)) g.1

module _ (xs : List ℕ) (bytes : Bytes xs) (e : length xs ≡ station_length) where
  -- a station that is told or shown is left as it is
  same : (n : ℕ) → refused_or (λ m. xs) n (station_bytes (station_at xs)) ≡ xs
  same n = of_answer _ _ (λ (ys : List ℕ). ys ≡ xs) n (λ z. bytes_of_state xs bytes e) (λ h. refl)

  pub lent_says : (c : LentCall) → LentSays c xs (station_at xs)
  unfolding digits start_answer start_after tick_answer tick_after offer_client_answer offer_client_after offer_transit_answer offer_transit_after offer_control_answer offer_control_after select_answer select_after age_answer age_after read_frame_answer read_frame_after write_frame_answer show_answer
  lent_says (start settings b) =
      inl (
        settings,
        (b, refl),
        record {
          other_length = λ h. not_whole _ settings _ _ _ _ h;
          out_of_range = λ h o. start_refused_lem settings xs h e (settings_at settings 0) o;
          fresh = λ h o. start_done settings xs h e (settings_at settings 0) o;
        },
      )
  lent_says (tick a b c) = roomless _ refl tt (whole_gives _ xs _ e _ _ _ (done_back xs _ _ _ (tick_of (station_at xs) a b c) refl (refl, refl)))
  lent_says (offer_client class size hops) =
      let d = offer_client_of (station_at xs) class size hops in
      roomless _ refl tt (rw (mark_alone (mark_told d)) (whole_gives_short _ xs _ e _ _ _ _ (taken_back xs _ _ _ _ _ d refl (refl, refl))))
  lent_says (offer_transit class size hops eligible) =
      roomless _ refl tt (whole_gives _ xs _ e _ _ _ (done_back xs _ _ _ (offer_transit_of (station_at xs) class size hops eligible) refl (refl, refl)))
  lent_says (offer_control size) = roomless _ refl tt (whole_gives _ xs _ e _ _ _ (done_back xs _ _ _ (offer_control_of (station_at xs) size) refl (refl, refl)))
  lent_says select =
      let d = select_of (station_at xs) in
      roomless _ refl tt (rw (frame_alone (origin_said d) (frame_said d)) (whole_gives _ xs _ e _ _ _ (chosen_back xs _ _ d refl (refl, refl))))
  lent_says age = roomless _ refl tt (whole_gives _ xs _ e _ _ _ (done_back xs _ _ _ (age_of (station_at xs)) refl (refl, refl)))
  lent_says (read_frame frame b) = roomless _ refl tt (whole_gives _ xs _ e _ _ _ (done_back xs _ _ _ (hear_of (station_at xs) frame) refl (refl, refl)))
  lent_says (write_frame room) =
      called _ refl
      (λ h. (then_whole_gives _ room _ h 0 room _ _ xs e (told_back room _ _ (tell_of (station_at xs)) refl (refl, refl))).0)
      (λ h. (then_not_whole _ room _ 0 room [] _ xs e h).0)
      (same _)
  lent_says (show room) =
      called _ refl
      (λ h. (then_whole_gives _ room _ h 0 room _ _ xs e (shown_back room _ _ (show_of (station_at xs)) refl (refl, refl))).0)
      (λ h. (then_not_whole _ room _ 0 room [] _ xs e h).0)
      (same _)

-- a room has its length or not
fits_or_not : (c : LentCall) → RoomFits c ⊎ (RoomFits c → ⊥)
fits_or_not (start settings b) = inl tt
fits_or_not (tick a b c) = inl tt
fits_or_not (offer_client class size hops) = inl tt
fits_or_not (offer_transit class size hops eligible) = inl tt
fits_or_not (offer_control size) = inl tt
fits_or_not select = inl tt
fits_or_not age = inl tt
fits_or_not (read_frame frame b) = inl tt
fits_or_not (write_frame room) = split (length room ≡? advert_length)
fits_or_not (show room) = split (length room ≡? reading_length)

-- ---- a station that is kept in bytes

written_keeps : (st : Station) → StationOk st → StationFits st → Keeps (station_bytes st) st
written_keeps st ok f =
    record { bytes = station_bytes_lem st; whole = station_length_lem st (fits_slotted f); holds = state_of_bytes st f; in_range_lem = ok }

-- rpr_start that was carried out leaves a fresh one, whatever the bytes were
module _ (settings xs : List ℕ) (bytes : Bytes settings) (z : start_answer settings xs ≡ 0) where
  none_counts : first_of (start_rows settings xs) ≡ 0
  unfolding start_answer answer_of
  none_counts = number_alone _ ∙ z

  pub start_in_range : SettingsOk (settings_at settings 0)
  start_in_range =
      let s = settings_at settings 0 in
      in_range_facts s (not-false (test (settings_ok s)) (free (start_rows settings xs) refl none_counts _ (inr (inr (inl refl)))))

  pub start_keeps : Keeps (start_after settings xs) (fresh_of (settings_at settings 0))
  unfolding start_after refused_or after_of
  start_keeps = rw none_counts (written_keeps _ (fresh_ok start_in_range) (fresh_fits start_in_range (settings_fit settings 0 bytes)))

start_never_1 : {xs : List ℕ} (settings : List ℕ) → StartSays settings xs → start_answer settings xs ≡ 1 → test (settings_ok (settings_at settings 0)) ≡ false
start_never_1 settings s e =
    by_cases (true_or_false (test (settings_ok (settings_at settings 0))))
    (λ o. by_cases (split (length settings ≡? settings_length))
    (λ h. let z = (s.fresh h o).0 in absurd (omega arith))
    (λ h. let z = (s.other_length h).0 in absurd (omega arith)))
    (λ o. o)

-- what a call leaves is a station in range again: a fresh one by a new start, else the one that its call on the station left
pub record Left (c : LentCall) (xs : List ℕ) (st : Station) : Type 0 where
  pub next : Station
  pub keeps : Keeps (left_by c xs) next
  pub follows : (NewStart c xs → ⊥) → next ≡ after st (calls_of c)

module _ {xs : List ℕ} {st : Station} (k : Keeps xs st) where
  says : (c : LentCall) → LentSays c xs st
  says c = subst (LentSays c xs) k.holds (lent_says xs k.bytes k.whole c)

  -- a start that is refused leaves the station
  turned_away : (settings : List ℕ) (b : Bytes settings) → xs ≡ start_after settings xs → Left (start settings b) xs st
  turned_away settings b same = record { next = st; keeps = subst (λ (ys : List ℕ). Keeps ys st) same k; follows = λ n. refl }

  start_left : (settings : List ℕ) (b : Bytes settings) → StartSays settings xs → Left (start settings b) xs st
  start_left settings b s =
      by_cases (split (length settings ≡? settings_length))
      (λ h. by_cases (true_or_false (test (settings_ok (settings_at settings 0))))
      (λ o.
      let z = sym (s.fresh h o).0 in
      record { next = fresh_of (settings_at settings 0); keeps = start_keeps settings xs b z; follows = λ n. absurd (n (settings, (b, refl), z)) })
      (λ o. turned_away settings b (s.out_of_range h o).1))
      (λ h. turned_away settings b (s.other_length h).1)

  left_keeps : (n : ℕ) (next : Station) → StationOk next → StationFits next → (0 < n → next ≡ st) → Keeps (refused_or (λ m. xs) n (station_bytes next)) next
  left_keeps n next ok f h = of_answer _ _ (λ (ys : List ℕ). Keeps ys next) n (λ z. written_keeps next ok f) (λ p. subst (Keeps xs) (sym (h p)) k)

  pub keeps_fits : StationFits st
  keeps_fits = subst StationFits k.holds (station_fits xs k.bytes)

  call_left_lem : (c : LentCall) → CallSays c xs st → Left c xs st
  call_left_lem c s =
      let r = step s.call st in
      record {
        next = r.station;
        keeps =
            subst (λ (ys : List ℕ). Keeps ys r.station) s.leaves
            (left_keeps r.answer.number r.station (range_kept k.in_range_lem s.call) (fits_kept k.in_range_lem keeps_fits s.call) (refused_leaves s.call st));
        follows = λ n. ap (after st) (sym s.is);
      }

  pub left : (c : LentCall) → Left c xs st
  left c =
      by_cases (says c)
      (λ s. subst (λ (d : LentCall). Left d xs st) (sym s.1.1) (start_left s.0 s.1.0 s.2))
      (λ s. call_left_lem c s)

  -- Each call leaves the bytes of what the station's own call left.
  pub call_keeps : (c : LentCall) (call : Call) → calls_of c ≡ call ∷ [] → Keeps (left_by c xs) (step call st).station
  call_keeps c call is =
      let follows = (left c).follows (λ n. let z = ap length (sym is ∙ ap calls_of n.1.1) in absurd (omega arith)) in
      subst (Keeps (left_by c xs)) (follows ∙ ap (after st) is) (left c).keeps

  -- None answers 1 but a start, for its settings.
  pub call_never_1 : (c : LentCall) → answer_to c xs ≡ 1 → (settings : List ℕ) × StartsWith settings c × (test (settings_ok (settings_at settings 0)) ≡ false)
  call_never_1 c e =
      by_cases (says c)
      (λ s. (s.0, s.1, start_never_1 s.0 s.2 (ap (λ (d : LentCall). answer_to d xs) (sym s.1.1) ∙ e)))
      (λ s. absurd (by_cases (fits_or_not c)
      (λ fits. never_1 k.in_range_lem s.call (given_1 s.call st (s.answers fits ∙ e)))
      (λ n. let two = s.other_room n in omega arith)))
