-- What a call writes of a lent station is all that it changes of it: the bytes afterwards are those of the station that it leaves.
-- Assumes nothing.
use Rattle.std.specs.Prelude.{Result, Ok, Err}
use Rattle.decide.specs.Number.{number_in}
use Rattle.shaper.specs.declared.Refused.{Refused}
use Rattle.shaper.specs.Short.{detail_of}
use Rattle.shaper.specs.Refused.{afterwards}
use Rattle.shaper.proofs.Turned.{refusal_known, left_known}
use Prim.Native.Nat.{ℕ, ◌≤◌, ◌<◌}
use mathlib.Core.Bool.{Bool}
use mathlib.Core.List.{List, ◌∷◌}
use mathlib.Core.Logic.{inl, inr}
use mathlib.Core.Path.{◌≡◌, refl, sym, ap, ◌∙◌}
use native.Mathlib.Omega.{arith}
use borrow.Author.Tests.{ltb-false}
use lib.ListN.{length, length-set}
use Rattle.decide.specs.Refusal.{Fault, first_of, refused_or}
use Rattle.decide.proofs.Refused.{of_answer, carried_by, refused_by}
use Rattle.wire.specs.Wire.{digits, put, Bytes}
use Rattle.queue.specs.declared.Frame.{Frame}
use Rattle.queue.specs.declared.Queue.{Queue}
use Rattle.queue.specs.Queue.{pushed, taken, space_of}
use Rattle.credits.specs.declared.Credits.{Credits}
use Rattle.flow.specs.declared.Client as flow
use Rattle.flow.specs.declared.Flow.{Flow}
use Rattle.flow.specs.declared.Line.{Line}
use Rattle.flow.specs.declared.Line.TheVariants.{Control, Primary, Secondary}
use Rattle.flow.specs.Parts.{queue_of, capacity_of, with_credits, with_stage, with_queue}
use Rattle.flow.specs.Tick.{tick_of}
use Rattle.flow.specs.Offer.{flow_after, enter_of}
use Rattle.flow.proofs.Offer.{enter_taken}
use Rattle.selection.specs.declared.Selected as selection
use Rattle.selection.proofs.Select.{Goes, control, primary, pressed, staged, secondary, nothing, goes}
use Rattle.fair.specs.declared.Fair.{Fair}
use Rattle.fair.specs.Four.{Four}
use Rattle.fair.specs.Count.{with_counters}
use Rattle.station.specs.declared.Station.{Station}
use Rattle.station.specs.declared.Client.{Client}
use Rattle.station.specs.declared.Selected.{Selected}
use Rattle.station.specs.Answers.{with_flow, with_fair, Done, refused_of, done_of, chosen_of}
use Rattle.station.specs.Calls.{ticked_of}
use Rattle.station.specs.Offers.{offer_faults, staging, short_for, turned_for}
use Rattle.slots.specs.Slots.{queue_bytes}
use Rattle.wire.specs.Words.{words_bytes}
use Rattle.layout.specs.Layout.{place_of, stage_place, fair_place, station_length, credits_words, four_words, fair_bytes, station_at, station_bytes, pushed_at, taken_at, taken_from}
use Rattle.layout.proofs.Range.{queue_here}
use Rattle.layout.proofs.Round.{Slotted, fits_slotted, station_fits, bytes_of_state}
use Rattle.layout.proofs.Anew.{credits_put, queue_put, stage_put, fair_put, counters_put, queue_slotted}
use Rattle.answer.specs.Bytes.{packed, mark_bytes, refused_bytes}
use Rattle.rpr.specs.Shape.{other_length_of}
use Rattle.rpr.proofs.Shape.{most_number, free}
use Rattle.rpr.proofs.Given.{Gives, HandedShort, whole_gives, taken_as, refusal_back, left_back}

-- ---- a call that is carried out: its rows give 0, and the station that it answers is the one that it leaves

-- a client's frame: taken, or turned down
module _ (old : List ℕ) (class n : ℕ) (st : Station) (mark : ℕ) (f : Flow) (d : Result Client Refused) (h : d ≡ refused_or (turned_for st class) n (taken_as st mark f)) where
  pub taken_left : (r : Client) → d ≡ Ok r → (left : Flow → List ℕ) → left f ≡ station_bytes (with_flow st f)
      → HandedShort (short_for st class) n (packed (mark_bytes mark)) old (station_bytes (with_flow st f)) (packed (mark_bytes r.mark)) (left r.station.flow)
  taken_left r k left e =
      let u = left_known (λ m. detail_of m (short_for st class)) _ n d h r k in
      rw u.1 (sym (carried_by _ _ n u.0), e ∙ sym (carried_by _ _ n u.0))

  -- the number and the detail that the station said are told, and the bytes left
  pub taken_not : (r : Refused) → d ≡ Err r
      → HandedShort (short_for st class) n (packed (mark_bytes mark)) old (station_bytes (with_flow st f)) (packed (refused_bytes (number_in r.refusal) r.detail)) old
  taken_not r k =
      let t = refusal_known (λ m. detail_of m (short_for st class)) _ n d h r k in
      rw (t.1, t.2) (sym (refused_by _ _ n t.0), sym (refused_by _ _ n t.0))

  -- a number of the table fits a byte
  pub number_fits : n ≤ most_number → (r : Refused) → d ≡ Err r → number_in r.refusal < 256
  number_fits small r k = let t = refusal_known (λ m. detail_of m (short_for st class)) _ n d h r k in omega (arith, small, t.1)

-- what the station answered: a refusal, or the station that it leaves
module _ (xs : List ℕ) (faults : List Fault) (e : length xs ≡ station_length) (next : Station) (d : Done) (h : d ≡ refused_or refused_of (first_of faults) (done_of next)) where
  -- a refusal is its number alone, and leaves the bytes
  pub done_refused : (r : Refused) → d ≡ Err r → Gives (other_length_of station_length xs ∷ faults) 0 xs (station_bytes next) (number_in r.refusal) xs
  done_refused r k = whole_gives _ xs faults e _ _ _ (refusal_back xs station_bytes _ next d h r k)

  -- and what is written of that station, where the call was carried out, is all that changes
  pub done_carried : {after : List ℕ} (b : Station) → d ≡ Ok b → (left : Station → List ℕ) → (first_of faults ≡ 0 → left next ≡ station_bytes next) → after ≡ left b
      → Gives (other_length_of station_length xs ∷ faults) 0 xs (station_bytes next) 0 after
  done_carried b k left w a =
      let u = left_known (λ m. 0) next _ d h b k in
      let same = ap left u.1 ∙ w u.0 ∙ ap station_bytes (sym u.1) in
      whole_gives _ xs faults e _ _ _ (left_back xs station_bytes _ next d h b k (a ∙ same))

-- ---- bytes, some part of a station in them written anew

-- the credits, the stage's word, the fairness state
abbrev pub credits_in : List ℕ → Flow → List ℕ
credits_in xs f = put xs 0 (words_bytes (credits_words f.credits))

abbrev pub stage_in : List ℕ → Flow → List ℕ
stage_in xs f = put xs stage_place (digits 4 f.stage)

abbrev pub fair_in : List ℕ → Fair → List ℕ
fair_in xs f = put xs fair_place (fair_bytes f)

abbrev pub counters_in : List ℕ → Four → List ℕ
counters_in xs c = put xs fair_place (words_bytes (four_words c))

-- what selection writes
abbrev pub selected_in : List ℕ → Selected → List ℕ
selected_in xs r = counters_in (stage_in (credits_in (taken_from r.origin xs) r.station.flow) r.station.flow) r.station.fair.counters

-- in the bytes of a station: the credits and the stage's word, and the counters too
module _ (ys : List ℕ) (st : Station) (s : Slotted st) (y : ys ≡ station_bytes st) (c : Credits) (w : ℕ) where
  abbrev two : List ℕ
  two = put (put ys 0 (words_bytes (credits_words c))) stage_place (digits 4 w)

  two_written : two ≡ station_bytes (with_flow st (with_stage (with_credits st.flow c) w))
  two_written =
      ap (λ (l : List ℕ). put (put l 0 (words_bytes (credits_words c))) stage_place (digits 4 w)) y
      ∙ ap (λ (l : List ℕ). put l stage_place (digits 4 w)) (credits_put st s c)
      ∙ stage_put (with_flow st (with_credits st.flow c)) s w

  three_written : (n : Four) → counters_in two n
      ≡ station_bytes (record { settings = st.settings; flow = with_stage (with_credits st.flow c) w; fair = with_counters n st.fair })
  three_written n =
      ap (λ (l : List ℕ). counters_in l n) two_written ∙ counters_put (with_flow st (with_stage (with_credits st.flow c) w)) s n

-- ---- the calls

-- a queue that was offered a frame has taken it where no row applies
entered : (st : Station) (l : Line) (x : Frame) → first_of (offer_faults st l x) ≡ 0
    → afterwards st.flow (enter_of st.settings st.flow l x) ≡ with_queue st.flow l (pushed (queue_of st.flow l) x)
entered st l x z =
    let fits : x.size ≤ space_of (queue_of st.flow l) (capacity_of st.settings l) = ltb-false _ _ (free (offer_faults st l x) refl z _ (inr (inr (inr (inl refl))))) in
    rw (enter_taken st.settings st.flow l x fits)

module _ (xs : List ℕ) (b : Bytes xs) (e : length xs ≡ station_length) where
  -- bytes of a station's length are those of the station that they hold
  whole : xs ≡ station_bytes (station_at xs)
  whole = sym (bytes_of_state xs b e)

  slotted : Slotted (station_at xs)
  slotted = fits_slotted (station_fits xs b)

  -- an interval, and a frame that is heard, change the fairness state
  pub fair_written : (f : Fair) → fair_in xs f ≡ station_bytes (with_fair (station_at xs) f)
  fair_written f = ap (λ (l : List ℕ). fair_in l f) whole ∙ fair_put (station_at xs) slotted f

  -- a tick changes the credits
  pub tick_written : (x y z : Bool) → credits_in xs (ticked_of (station_at xs) x y z).flow ≡ station_bytes (ticked_of (station_at xs) x y z)
  unfolding tick_of
  tick_written x y z =
      ap (λ (l : List ℕ). put l 0 (words_bytes (credits_words (ticked_of (station_at xs) x y z).flow.credits))) whole
      ∙ credits_put (station_at xs) slotted (ticked_of (station_at xs) x y z).flow.credits

  -- a client's frame changes the credits and the stage
  pub client_written : (class size hops : ℕ) →
      let f : Flow = flow_after (station_at xs).flow (staging (station_at xs) class size hops) in
      stage_in (credits_in xs f) f ≡ station_bytes (with_flow (station_at xs) f)
  client_written class size hops =
      let f : Result flow.Client Refused → Flow = flow_after (station_at xs).flow in
      of_answer _ _ (λ (r : Result flow.Client Refused). stage_in (credits_in xs (f r)) (f r) ≡ station_bytes (with_flow (station_at xs) (f r))) _
      (λ z. two_written xs (station_at xs) slotted whole _ _) (λ z. two_written xs (station_at xs) slotted whole _ _)

  -- a queue has 128 slots
  many : (l : Line) → length (queue_of (station_at xs).flow l).slots ≡ 128
  many Control = slotted.0
  many Primary = slotted.1
  many Secondary = slotted.2

  queue_written : (l : Line) (q : Queue) → length q.slots ≡ 128 → put xs (place_of l) (queue_bytes q) ≡ station_bytes (with_flow (station_at xs) (with_queue (station_at xs).flow l q))
  queue_written l q n = ap (λ (r : List ℕ). put r (place_of l) (queue_bytes q)) whole ∙ queue_put (station_at xs) slotted l q n

  pushed_slots : (l : Line) (x : Frame) → length (pushed (queue_of (station_at xs).flow l) x).slots ≡ 128
  unfolding pushed
  pushed_slots l x = simp length-set (many l)

  taken_slots : (l : Line) → length (taken (queue_of (station_at xs).flow l)).slots ≡ 128
  unfolding taken
  taken_slots l = simp length-set (many l)

  -- an offer changes a queue
  pub offer_written : (l : Line) (x : Frame) → first_of (offer_faults (station_at xs) l x) ≡ 0
      → pushed_at xs l x ≡ station_bytes (with_flow (station_at xs) (afterwards (station_at xs).flow (enter_of (station_at xs).settings (station_at xs).flow l x)))
  offer_written l x z =
      rw (queue_here xs l, entered (station_at xs) l x z)
      (queue_written l (pushed (queue_of (station_at xs).flow l) x) (pushed_slots l x))

  from_queue : (l : Line) (c : Credits) (w : ℕ) (n : Four) →
      counters_in (put (put (taken_at xs l) 0 (words_bytes (credits_words c))) stage_place (digits 4 w)) n
      ≡ station_bytes (
      record {
        settings = (station_at xs).settings;
        flow = with_stage (with_credits (with_queue (station_at xs).flow l (taken (queue_of (station_at xs).flow l))) c) w;
        fair = with_counters n (station_at xs).fair;
      }
      )
  from_queue l c w n =
      three_written (taken_at xs l) (with_flow (station_at xs) (with_queue (station_at xs).flow l (taken (queue_of (station_at xs).flow l))))
      (queue_slotted (station_at xs) slotted l (taken (queue_of (station_at xs).flow l)) (taken_slots l))
      (rw (queue_here xs l) (queue_written l (taken (queue_of (station_at xs).flow l)) (taken_slots l))) c w n

  -- a selection changes a queue or the stage, the credits, and the counters
  row_written : (r : selection.Selected) → Goes (station_at xs).settings (station_at xs).flow r → (n : Four)
      → counters_in (stage_in (credits_in (taken_from r.origin xs) r.flow) r.flow) n
      ≡ station_bytes (record { settings = (station_at xs).settings; flow = r.flow; fair = with_counters n (station_at xs).fair })
  row_written r (control a) n = from_queue Control _ _ n
  row_written r (primary a c) n = from_queue Primary _ _ n
  row_written r (pressed a c d) n = from_queue Secondary _ _ n
  row_written r (staged a c d g) n = three_written xs (station_at xs) slotted whole _ _ n
  row_written r (secondary a c d g h) n = from_queue Secondary _ _ n
  row_written r (nothing a c d g h) n = three_written xs (station_at xs) slotted whole _ _ n

  pub select_written : selected_in xs (chosen_of (station_at xs)) ≡ station_bytes (chosen_of (station_at xs)).station
  select_written = row_written _ (goes (station_at xs).settings (station_at xs).flow) _
