-- What a host tells of a shaper from its calls and the numbers that it got is what the calls were: a refusal's number is not 0 and names no frame, and the
-- bytes of a call that was carried out hold what the station said. Assumes nothing.
use Rattle.std.specs.Prelude.{Result, Ok}
use Rattle.decide.proofs.Number.{number_told}
use Rattle.shaper.specs.declared.Refused.{Refused}
use Rattle.flow.specs.Offer.{mark_said}
use Prim.Native.Nat.{ℕ, zero, suc, ◌+◌, ◌*◌, ◌/◌, ◌%◌, ◌<◌}
use mathlib.Core.List.{List, [], ◌∷◌, ◌++◌, append_assoc}
use mathlib.Core.Path.{◌≡◌, refl, sym, ap, subst, ◌∙◌}
use native.Mathlib.Omega.{arith}
use borrow.Author.Tests.{ne_eqb}
use lib.ListN.{length, take, get_or}
use Rattle.decide.specs.Test.{split, ◌≡?◌}
use Rattle.decide.specs.Refusal.{refused_or}
use Rattle.decide.proofs.Cases.{by_cases}
use Rattle.wire.specs.Wire.{le, digits, Bytes}
use Rattle.shaper.specs.declared.Event.{Event}
use Rattle.settings.specs.declared.Settings.{Settings}
use Rattle.settings.specs.Words.{settings_at}
use Rattle.queue.specs.Queue as queue
use Rattle.credits.specs.declared.Credits.{Credits}
use Rattle.credits.specs.declared.Which.{Which}
use Rattle.credits.specs.Which.{credit_of, sends}
use Rattle.flow.specs.declared.Client as flow
use Rattle.flow.specs.declared.Flow.{Flow}
use Rattle.flow.specs.Parts.{with_credits}
use Rattle.selection.specs.declared.Selected as selection
use Rattle.selection.specs.Events.{charges_of}
use Rattle.selection.proofs.Select.{Goes, control, primary, pressed, staged, secondary, nothing, goes}
use Rattle.station.specs.declared.Station.{Station}
use Rattle.station.specs.declared.Selected.{Selected}
use Rattle.station.specs.Range.{StationOk}
use Rattle.station.specs.Answers.{with_flow, refused_of, done_of, chosen_of}
use Rattle.station.specs.Calls.{tick_faults, select_faults}
use Rattle.station.specs.Offers.{offer_client_faults, staging, turned_for, taken_of}
use Rattle.station.specs.History as station
use Rattle.station.specs.History.{Call, Answer, of_done, of_client, of_selected, step, trace, after, record_of, Recorded}
use Rattle.station.proofs.Calls.{select_done}
use Rattle.station.proofs.Range.{facts_in_range}
use Rattle.station.proofs.History.{trace_creditless}
use Rattle.layout.specs.Layout.{station_length, station_at}
use Rattle.rpr.specs.Station.{start_answer, tick_answer, offer_client_answer, select_answer}
use Rattle.rpr.specs.Lent.{LentCall, start, tick, offer_client, offer_transit, offer_control, select, age, read_frame, write_frame, show}
use Rattle.rpr.specs.Lent.{answer_to, calls_of, Lending, lent_to, memory_after, memory_through, NoNewStart, calls_on, started_in, station_in}
use Rattle.rpr.specs.Told.{read_off, traced, events_told, record_told}
use Rattle.rpr.proofs.Shape.{right_length}
use Rattle.rpr.proofs.Station.{tick_leaves, offer_client_leaves, select_leaves, client_mark, select_bytes, offer_client_bytes}
use Rattle.rpr.proofs.Rooms.{no_row}
use Rattle.rpr.specs.Says.{Keeps}
use Rattle.rpr.proofs.Step.{lent_short, left}
use Rattle.rpr.proofs.Lent.{first_lent, first_left, short_same, whole_calls, short_calls, begins, credit_of_lent}

-- No credit of the lent station is asked.
traced_creditless : (w : Which) (cs : List Call) (r : Answer) (st : Station) (k : Credits) → traced w cs r (with_flow st (with_credits st.flow k)) ≡ traced w cs r st
traced_creditless w [] r st k = refl
traced_creditless w (c ∷ cs) r st k = rw (trace_creditless w c r st k, traced_creditless w cs r st k)

pub told_creditless : (w : Which) (c : LentCall) (r : ℕ) (st : Station) (k : Credits) → events_told w c r (with_flow st (with_credits st.flow k)) ≡ events_told w c r st
told_creditless w c r st k = traced_creditless w (calls_of c) (read_off r) st k

-- ---- one call

-- 2 is no event
short_told_lem : (w : Which) (c : LentCall) (st : Station) → events_told w c 2 st ≡ []
unfolding digits le
short_told_lem w (start settings b) st = refl
short_told_lem w (tick a b c) st = refl
short_told_lem w (offer_client class size hops) st = refl
short_told_lem w (offer_transit class size hops eligible) st = refl
short_told_lem w (offer_control size) st = refl
short_told_lem w select st = refl
short_told_lem w age st = refl
short_told_lem w (read_frame frame b) st = refl
short_told_lem w (write_frame room) st = refl
short_told_lem w (show room) st = refl

module _ (w : Which) (r : ℕ) (st : Station) where
  -- a tick by its number alone
  tick_by : (n : ℕ) (a b c : ℕ) (next : Station) → r % 256 ≡ n
      → trace w (station.tick a b c) (read_off r) st ≡ trace w (station.tick a b c) (of_done st (refused_or refused_of n (done_of next))).answer st
  unfolding digits refused_or
  tick_by zero a b c next e = rw e
  tick_by (suc n) a b c next e = rw (e, number_told (suc n))

  -- a client's frame by its mark too, where it was taken
  client_by : (n : ℕ) (class size hops : ℕ) (d : Result flow.Client Refused) → r % 256 ≡ n → (n ≡ 0 → get_or (digits 8 r) 4 0 ≡ mark_said d)
      → trace w (station.offer_client class size hops) (read_off r) st ≡ trace w (station.offer_client class size hops) (of_client st (refused_or (turned_for st class) n (taken_of st d))).answer st
  unfolding digits refused_or
  client_by zero class size hops d e m = rw (e, m refl)
  client_by (suc n) class size hops d e m = rw (e, number_told (suc n), ne_eqb (suc n) 0 (λ z. omega arith))

-- the size of a frame has 14 bits
chosen_size : {s : Settings} {f : Flow} {r : selection.Selected} → Goes s f r → r.frame.size < 16384
unfolding queue.first_frame
chosen_size (control a) = omega arith
chosen_size (primary a b) = omega arith
chosen_size (pressed a b c) = omega arith
chosen_size (staged a b c d) = omega arith
chosen_size (secondary a b c d e) = omega arith
chosen_size (nothing a b c d e) = omega arith

-- a frame that was selected by where it came from and its size
select_by : (w : Which) (r : ℕ) (st : Station) (d : Selected) → d.frame.size < 16384
    → digits 8 r ≡ (0 ∷ d.origin ∷ d.frame.class ∷ d.frame.hops ∷ d.frame.mark ∷ 0 ∷ []) ++ digits 2 d.frame.size
    → trace w station.select (read_off r) st ≡ trace w station.select (of_selected st (Ok d)).answer st
unfolding digits le
select_by w r st d small e =
    let whole : d.frame.size % 256 + 256 * (d.frame.size / 256 % 256 + 256 * 0) ≡ d.frame.size = omega arith in
    ap (λ (bs : List ℕ). sends (charges_of st.settings st.flow (get_or bs 1 0)) (le 2 bs 6) w) e
    ∙ ap (λ (z : ℕ). sends (charges_of st.settings st.flow d.origin) z w) whole

-- The bytes of a call that is lent a station in range tell what it was.
module _ (w : Which) (xs : List ℕ) (e : length xs ≡ station_length) (ok : StationOk (station_at xs)) where
  abbrev lent : Station
  lent = station_at xs

  client_told : (class size hops : ℕ) → trace w (station.offer_client class size hops) (read_off (offer_client_answer xs class size hops)) lent
      ≡ trace w (station.offer_client class size hops) (step (station.offer_client class size hops) lent).answer lent
  client_told class size hops =
      let number = (offer_client_leaves xs class size hops).0.byte_0 ∙ right_length station_length xs (offer_client_faults lent class size hops) e in
      client_by w (offer_client_answer xs class size hops) lent _ class size hops (staging lent class size hops) number
      (λ z. ap (λ (bs : List ℕ). get_or bs 4 0) (offer_client_bytes xs class size hops (number ∙ z)) ∙ sym (client_mark xs class size hops (number ∙ z)))

  select_told : trace w station.select (read_off (select_answer xs)) lent ≡ trace w station.select (step station.select lent).answer lent
  select_told =
      let carried = (select_leaves xs).0.byte_0 ∙ right_length station_length xs (select_faults lent) e ∙ no_row lent ok in
      select_by w (select_answer xs) lent (chosen_of lent) (chosen_size (goes lent.settings lent.flow)) (select_bytes xs carried)
      ∙ ap (λ (d : Result Selected Refused). trace w station.select (of_selected lent d).answer lent) (sym (select_done lent (facts_in_range lent ok)))

  whole_told : (c : LentCall) → events_told w c (answer_to c xs) lent ≡ record_of w lent (calls_of c)
  whole_told (start settings b) = refl
  whole_told (tick a b c) =
      ap (λ (es : List Event). es ++ [])
      (tick_by w (tick_answer xs a b c) lent _ a b c _ ((tick_leaves xs a b c).0.byte_0 ∙ right_length station_length xs (tick_faults lent a b c) e))
  whole_told (offer_client class size hops) = ap (λ (es : List Event). es ++ []) (client_told class size hops)
  whole_told (offer_transit class size hops eligible) = refl
  whole_told (offer_control size) = refl
  whole_told select = ap (λ (es : List Event). es ++ []) select_told
  whole_told age = refl
  whole_told (read_frame frame b) = refl
  whole_told (write_frame room) = refl
  whole_told (show room) = refl

-- ---- calls on memory

record_append : (w : Which) (st : Station) (cs ds : List Call) → record_of w st (cs ++ ds) ≡ record_of w st cs ++ record_of w (after st cs) ds
record_append w st [] ds = refl
record_append w st (c ∷ cs) ds =
    rw (record_append w (step c st).station cs ds) (sym (append_assoc (trace w c (step c st).answer st) _ _))

-- What the host tells of the calls is the record of the calls that the station had.
pub told_as_made : (w : Which) (mem : List ℕ) (ls : List Lending) {st : Station} → Keeps (take station_length mem) st → NoNewStart mem ls
    → record_told w mem ls ≡ record_of w st (calls_on mem ls)
told_as_made w mem [] k none = refl
told_as_made w mem (l ∷ ls) {st} k none =
    by_cases (split (length (lent_to l mem) ≡? station_length))
    (λ h.
    let here = subst (λ (xs : List ℕ). Keeps xs st) (first_lent l mem h) k in
    let one = left here l.call in
    let next = subst (λ (xs : List ℕ). Keeps xs one.next) (sym (first_left l mem one.keeps.whole)) one.keeps in
    let told =
    whole_told w (lent_to l mem) h (subst StationOk (sym here.holds) here.in_range_lem) l.call
    ∙ ap (λ (s : Station). record_of w s (calls_of l.call)) here.holds in
    let rest = told_as_made w (memory_after l mem) ls next none.1 ∙ ap (λ (s : Station). record_of w s (calls_on (memory_after l mem) ls)) (one.follows none.0) in
    rw (told, rest)
    (sym (record_append w st (calls_of l.call) (calls_on (memory_after l mem) ls)) ∙ ap (record_of w st) (sym (whole_calls l mem ls h))))
    (λ h.
    let told = ap (λ (r : ℕ). events_told w l.call r (station_at (lent_to l mem))) (sym (lent_short (lent_to l mem) h l.call).0) ∙ short_told_lem w l.call _ in
    let rest = told_as_made w (memory_after l mem) ls (subst (λ (m : List ℕ). Keeps (take station_length m) st) (sym (short_same l mem h)) k) none.1 in
    rw (told, rest) (ap (record_of w st) (sym (short_calls l mem ls h))))

-- Over any calls from a fresh station, each lent what the one before left and none a new start, a shaper's credit equals that of the record that the host can
-- tell from its calls and their numbers; and every send was permitted.
pub credit_of_told : (settings mem : List ℕ) → Bytes settings → start_answer settings (take station_length mem) ≡ 0
    → (ls : List Lending) → NoNewStart (started_in settings mem) ls → (w : Which)
    → Recorded (settings_at settings 0) w (credit_of (station_in (memory_through (started_in settings mem) ls)).flow.credits w) (record_told w (started_in settings mem) ls)
credit_of_told settings mem bytes z ls none w =
    rw (told_as_made w (started_in settings mem) ls (begins settings mem bytes z) none) (credit_of_lent settings mem bytes z ls none w)
