-- A station's bytes, one part of them written anew: they are those of the station with that part anew. So a call writes what it changes, and no more.
-- Assumes nothing.
use Prim.Native.Nat.{ℕ, ◌+◌, ◌%◌, ◌≤◌}
use mathlib.Core.List.{[], ◌∷◌}
use mathlib.Core.Path.{◌≡◌, refl, sym, ap, ◌∙◌}
use native.Mathlib.Omega.{arith}
use lib.ListN.{length}
use Rattle.wire.specs.Wire.{digits, put}
use Rattle.wire.specs.Parts.{group}
use Rattle.wire.proofs.Numbers.{digits_mod}
use Rattle.settings.specs.Words.{word, settings_part}
use Rattle.queue.specs.declared.Queue.{Queue}
use Rattle.queue.specs.Queue.{pushed}
use Rattle.credits.specs.declared.Credits.{Credits}
use Rattle.flow.specs.declared.Line.{Line}
use Rattle.flow.specs.declared.Line.TheVariants.{Control, Primary, Secondary}
use Rattle.flow.specs.Parts.{with_credits, with_stage, with_queue}
use Rattle.fair.specs.declared.Fair.{Fair}
use Rattle.fair.specs.Four.{Four}
use Rattle.fair.specs.Count.{with_counters}
use Rattle.station.specs.declared.Station.{Station}
use Rattle.station.specs.Answers.{with_flow, with_fair}
use Rattle.station.specs.Offers.{given_frame}
use Rattle.slots.specs.Slots.{queue_length, queue_bytes, queue_part}
use Rattle.wire.specs.Words.{words_bytes}
use Rattle.slots.proofs.Anew.{put_anew}
use Rattle.layout.specs.Layout.{place_of, stage_place, fair_place, station_length, words_part, credits_words, four_words, stored_parts, decided_words, received_words}
use Rattle.layout.specs.Layout.{fair_parts, fair_bytes, station_bytes}
use Rattle.layout.proofs.Round.{Slotted, parts}

module _ (st : Station) (e : Slotted st) where
  pub credits_put : (c : Credits) → put (station_bytes st) 0 (words_bytes (credits_words c)) ≡ station_bytes (with_flow st (with_credits st.flow c))
  unfolding station_bytes
  credits_put c = put_anew (parts st e) 0 (words_part (credits_words c)) (omega arith) refl

  pub queue_put : (l : Line) (q : Queue) → length q.slots ≡ 128 → put (station_bytes st) (place_of l) (queue_bytes q) ≡ station_bytes (with_flow st (with_queue st.flow l q))
  unfolding station_bytes
  queue_put Control q n = put_anew (parts st e) 1 (queue_part q n) (omega arith) refl
  queue_put Primary q n = put_anew (parts st e) 2 (queue_part q n) (omega arith) refl
  queue_put Secondary q n = put_anew (parts st e) 3 (queue_part q n) (omega arith) refl

  pub stage_put : (w : ℕ) → put (station_bytes st) stage_place (digits 4 w) ≡ station_bytes (with_flow st (with_stage st.flow w))
  unfolding station_bytes
  stage_put w = put_anew (parts st e) 4 (word w) (omega arith) refl

  pub fair_put : (f : Fair) → put (station_bytes st) fair_place (fair_bytes f) ≡ station_bytes (with_fair st f)
  unfolding station_bytes
  fair_put f = put_anew (parts st e) 5 (group (fair_parts f)) (omega arith) refl

  -- the counters, which stand first in the fairness state
  pub counters_put : (c : Four) → put (station_bytes st) fair_place (words_bytes (four_words c)) ≡ station_bytes (with_fair st (with_counters c st.fair))
  unfolding station_bytes digits words_bytes
  counters_put c =
      let f : Fair = st.fair in
      put_anew
      (words_part (credits_words st.flow.credits)
      ∷ queue_part st.flow.control e.0
      ∷ queue_part st.flow.primary e.1
      ∷ queue_part st.flow.secondary e.2
      ∷ word st.flow.stage
      ∷ words_part (four_words f.counters)
      ∷ group (group (stored_parts f.smoothed) ∷ words_part (decided_words f.decided) ∷ word f.since ∷ words_part (received_words f.received) ∷ [])
      ∷ settings_part st.settings
      ∷ [])
      5
      (words_part (four_words c))
      (omega arith)
      refl

  -- a queue of 128 slots for one of 128 slots
  pub queue_slotted : (l : Line) (q : Queue) → length q.slots ≡ 128 → Slotted (with_flow st (with_queue st.flow l q))
  queue_slotted Control q n = (n, e.1, e.2)
  queue_slotted Primary q n = (e.0, n, e.2)
  queue_slotted Secondary q n = (e.0, e.1, n)

-- a queue's place is within a station's bytes
pub place_within : (l : Line) → place_of l + queue_length ≤ station_length
place_within Control = omega arith
place_within Primary = omega arith
place_within Secondary = omega arith

-- a frame's numbers, cut to 32 bits, have the same bytes in a queue
pub low_pushed : (q : Queue) (class size hops mark : ℕ) →
    queue_bytes (pushed q (given_frame (class % 4294967296) (size % 4294967296) (hops % 4294967296) (mark % 4294967296)))
    ≡ queue_bytes (pushed q (given_frame class size hops mark))
unfolding queue_bytes pushed
low_pushed q class size hops mark =
    let a : size % 4294967296 % 16384 ≡ size % 16384 = omega arith in
    let b : hops % 4294967296 % 64 ≡ hops % 64 = omega arith in
    let c : class % 4294967296 % 4 ≡ class % 4 = omega arith in
    let d : mark % 4294967296 % 2 ≡ mark % 2 = omega arith in
    let m : (q.held + size % 4294967296) % 4294967296 ≡ (q.held + size) % 4294967296 = omega arith in
    let h : digits 4 (q.held + size % 4294967296) ≡ digits 4 (q.held + size) =
    sym (digits_mod 4 (q.held + size % 4294967296)) ∙ ap (digits 4) m ∙ digits_mod 4 (q.held + size) in
    rw (a, b, c, d, h)
