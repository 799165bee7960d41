-- A station and its bytes say the same, and so do a reading and its. What is written is read back, and bytes that are read are written again.
-- Assumes nothing.
use Prim.Native.Nat.{ℕ, ◌+◌, ◌^◌, ◌≤◌, ◌<◌}
use mathlib.Core.List.{List}
use mathlib.Core.Logic.{⊎_elim}
use mathlib.Core.Path.{◌≡◌, refl, sym}
use native.Mathlib.Omega.{arith}
use lib.ListN.{length}
use Rattle.decide.specs.Test.{split, ◌≡?◌}
use Rattle.wire.specs.Wire.{Bytes}
use Rattle.wire.specs.Parts.{Part, bytes_part, nth, offset, length_laid_out}
use Rattle.wire.proofs.Places.{Stands, stands_whole}
use Rattle.wire.proofs.Numbers.{digits_stand, digits_bytes, le_bound, le_stands}
use Rattle.wire.proofs.Laid.{part_stands, whole_standing}
use Rattle.settings.specs.declared.Settings.{Settings}
use Rattle.settings.specs.Range.{SettingsOk}
use Rattle.settings.proofs.Range.{coef_bounds}
use Rattle.wire.proofs.Placed.{laid_out_bytes}
use Rattle.settings.proofs.Words as settings
use Rattle.settings.proofs.Words.{word_at}
use Rattle.credits.specs.declared.Which.TheVariants.{M, A, B, C, D}
use Rattle.flow.specs.declared.Line.TheVariants.{Control, Primary, Secondary}
use Rattle.flow.specs.Range.{FlowOk}
use Rattle.rates.specs.Rates.{shown_of}
use Rattle.fair.specs.Four.{Four, Stored}
use Rattle.fair.specs.declared.Fair.{Fair}
use Rattle.fair.specs.Range.{StoredOk, FairOk}
use Rattle.fair.proofs.Age.{stored_below}
use Rattle.station.specs.declared.Station.{Station}
use Rattle.station.specs.declared.Held.{Held}
use Rattle.station.specs.declared.Reading.{Reading}
use Rattle.station.specs.Range.{StationOk}
use Rattle.station.specs.Narrow.{Narrow}
use Rattle.station.specs.Show.{held_on, reading_of}
use Rattle.station.proofs.Hear.{held_none, held_one}
use Rattle.slots.specs.Slots.{queue_bytes, queue_part, WordsFit}
use Rattle.slots.proofs.Round as slots
use Rattle.layout.specs.Layout.{place_of, stage_place, fair_place, settings_place, station_length, credits_words, credits_at}
use Rattle.layout.specs.Layout.{station_parts, station_bytes, station_at, StoredFits, FairFits, StationFits}
use Rattle.layout.specs.Reading.{reading_length, held_words, held_at, reading_parts, reading_bytes, reading_at, ReadingFits}
use Rattle.layout.proofs.Words.{words_stand, words_fit}
use Rattle.layout.proofs.Groups.{credits_back, held_back, four_back, decided_back, received_back, credits_read, held_read}
use Rattle.layout.proofs.Groups.{four_stands, decided_stands, received_stands, fair_back, fair_stands, fair_fits, fair_bytes_lem}

-- ---- a queue has its 128 slots

abbrev pub Slotted : Station → Type 0
Slotted st = (length st.flow.control.slots ≡ 128) × (length st.flow.primary.slots ≡ 128) × (length st.flow.secondary.slots ≡ 128)

pub fits_slotted : {st : Station} → StationFits st → Slotted st
fits_slotted f = (f.of_control.many, f.of_primary.many, f.of_secondary.many)

-- a station's parts, with each queue 518 bytes
abbrev pub parts : (st : Station) → Slotted st → List Part
parts st e = station_parts (queue_part st.flow.control e.0) (queue_part st.flow.primary e.1) (queue_part st.flow.secondary e.2) st

pub station_length_lem : (st : Station) → Slotted st → length (station_bytes st) ≡ station_length
unfolding station_bytes
station_length_lem st e = length_laid_out (parts st e)

-- ---- a station, written and read

-- a station is read where its bytes stand
station_back : (xs : List ℕ) (st : Station) → StationFits st → Stands xs 0 (station_bytes st) → station_at xs ≡ st
unfolding station_bytes station_at
station_back xs st f s =
    let ps : List Part = parts st (fits_slotted f) in
    let p : (k : ℕ) → Stands xs (0 + offset ps k) (nth ps k).bytes = λ k. part_stands ps k xs 0 s in
    rw (
      credits_back xs 0 st.flow.credits f.of_credits (p 0),
      slots.queue_back xs (place_of Control) st.flow.control f.of_control (p 1),
      slots.queue_back xs (place_of Primary) st.flow.primary f.of_primary (p 2),
      slots.queue_back xs (place_of Secondary) st.flow.secondary f.of_secondary (p 3),
      le_stands 4 st.flow.stage xs stage_place f.of_stage (p 4),
      fair_back xs fair_place st.fair f.of_fair (p 5),
      settings.settings_back xs settings_place st.settings f.of_settings (p 6),
    )

-- A station whose numbers fit is read back as it was written.
pub state_of_bytes : (st : Station) → StationFits st → station_at (station_bytes st) ≡ st
state_of_bytes st f = station_back (station_bytes st) st f (stands_whole (station_bytes st))

-- what is written are bytes
pub station_bytes_lem : (st : Station) → Bytes (station_bytes st)
unfolding station_bytes
station_bytes_lem st =
    laid_out_bytes
    (station_parts (bytes_part (queue_bytes st.flow.control)) (bytes_part (queue_bytes st.flow.primary)) (bytes_part (queue_bytes st.flow.secondary)) st) (
      slots.words_bytes_lem (credits_words st.flow.credits),
      (
        slots.queue_bytes_lem st.flow.control,
        (
          slots.queue_bytes_lem st.flow.primary,
          (
            slots.queue_bytes_lem st.flow.secondary,
            (digits_bytes 4 st.flow.stage, (fair_bytes_lem st.fair, (settings.settings_bytes_lem st.settings, tt))),
          ),
        ),
      ),
    )

-- ---- bytes of a station's length, read and written

module _ (xs : List ℕ) (b : Bytes xs) where
  -- what is read from bytes fits
  pub station_fits : StationFits (station_at xs)
  unfolding station_at
  station_fits =
      record {
        of_credits = words_fit xs 0 b (credits_words (credits_at xs 0)) (credits_read xs 0);
        of_control = slots.queue_fits xs (place_of Control) b;
        of_primary = slots.queue_fits xs (place_of Primary) b;
        of_secondary = slots.queue_fits xs (place_of Secondary) b;
        of_stage = le_bound 4 xs stage_place b;
        of_fair = fair_fits xs b fair_place;
        of_settings = settings.settings_fit xs settings_place b;
      }

  -- Every so many bytes hold one station, and it writes them again.
  pub bytes_of_state : length xs ≡ station_length → station_bytes (station_at xs) ≡ xs
  unfolding station_bytes station_at
  bytes_of_state e =
      whole_standing (parts (station_at xs) (fits_slotted station_fits)) xs (sym e) (
        words_stand xs 0 b (credits_words (credits_at xs 0)) (omega arith) (credits_read xs 0),
        (
          slots.queue_stand xs b (place_of Control) (omega arith),
          (
            slots.queue_stand xs b (place_of Primary) (omega arith),
            (
              slots.queue_stand xs b (place_of Secondary) (omega arith),
              (
                digits_stand 4 xs stage_place b,
                (
                  fair_stands xs b fair_place (omega arith),
                  (settings.settings_stand xs b settings_place (omega arith), tt),
                ),
              ),
            ),
          ),
        ),
      )

-- ---- a station in range fits

stored_in_range_fits : (lpCoef : ℕ) (s : Stored) → 0 < lpCoef → lpCoef ≤ 512 → StoredOk lpCoef s → StoredFits s
stored_in_range_fits c s p most ok =
    let below : (x : ℕ) → shown_of c x ≤ 2147483647 → x < 256 ^ 8 = λ x h. omega (arith, stored_below c x p most h) in
    record { add = below s.add ok.add_most; fw = below s.fw ok.fw_most; addc = below s.addc ok.addc_most; fwc = below s.fwc ok.fwc_most }

fair_in_range_fits : (s : Settings) (f : Fair) → SettingsOk s → FairOk s f → f.received.low < 4294967296 → FairFits f
fair_in_range_fits s f settings ok low =
    let lp = coef_bounds s.fairness.lp settings.of_fairness.lp_one_of in
    record {
      of_counters = omega (arith, ok.of_counters);
      of_smoothed = stored_in_range_fits s.fairness.lp f.smoothed (omega (arith, lp)) lp.1 ok.of_smoothed;
      of_decided =
          let d = ok.of_decided in
          omega (arith, d.own_most, d.local_most, d.allowed_most, d.allowedc_most, d.congested_most, settings.of_fairness.unreserved_most);
      of_since = omega (arith, ok.since_below, settings.of_site.trip_most);
      of_received = omega (arith, ok.of_received, low);
    }

-- where the low words of addresses, of which the range says nothing, are numbers of 32 bits
pub station_in_range_fits : (st : Station) → StationOk st → Narrow st → StationFits st
station_in_range_fits st ok n =
    let s : SettingsOk st.settings = ok.settings in
    let f : FairOk st.settings st.fair = ok.fair in
    let w : FlowOk st.settings st.flow = ok.flow in
    record {
      of_credits = omega (arith, w.credits M, w.credits A, w.credits B, w.credits C, w.credits D);
      of_control = slots.queue_in_range_fits s.of_queues.control_most (w.queues Control);
      of_primary = slots.queue_in_range_fits s.of_queues.primary_most (w.queues Primary);
      of_secondary = slots.queue_in_range_fits s.of_queues.secondary_most (w.queues Secondary);
      of_stage = ⊎_elim (λ (e : st.flow.stage ≡ 0). omega arith) (λ h. omega (arith, h.frame.mark)) w.stage;
      of_fair = fair_in_range_fits st.settings st.fair s f n.low;
      of_settings = settings.in_range_fit st.settings s n.own_low;
    }

-- ---- a reading

pub reading_length_lem : (r : Reading) → length (reading_bytes r) ≡ reading_length
unfolding reading_bytes
reading_length_lem r = length_laid_out (reading_parts r)

reading_back : (xs : List ℕ) (r : Reading) → ReadingFits r → Stands xs 0 (reading_bytes r) → reading_at xs ≡ r
unfolding reading_bytes reading_at
reading_back xs r f s =
    let ps : List Part = reading_parts r in
    let p : (k : ℕ) → Stands xs (0 + offset ps k) (nth ps k).bytes = λ k. part_stands ps k xs 0 s in
    rw (
      credits_back xs 0 r.credits f.of_credits (p 0),
      held_back xs 20 r.control f.of_control (p 1),
      held_back xs 28 r.primary f.of_primary (p 2),
      held_back xs 36 r.secondary f.of_secondary (p 3),
      held_back xs 44 r.stage f.of_stage (p 4),
      four_back xs 52 r.counters f.of_counters (p 5),
      four_back xs 68 r.smoothed f.of_smoothed (p 6),
      decided_back xs 84 r.decided f.of_decided (p 7),
      received_back xs 104 r.received f.of_received (p 8),
    )

-- A reading whose numbers fit is read back as it was written.
pub reading_of_bytes : (r : Reading) → ReadingFits r → reading_at (reading_bytes r) ≡ r
reading_of_bytes r f = reading_back (reading_bytes r) r f (stands_whole (reading_bytes r))

-- Every so many bytes hold one reading, and it writes them again.
pub bytes_of_reading : (xs : List ℕ) → Bytes xs → length xs ≡ reading_length → reading_bytes (reading_at xs) ≡ xs
unfolding reading_bytes reading_at
bytes_of_reading xs b e =
    let held : (at : ℕ) → at + 8 ≤ length xs → _ = λ at h. words_stand xs at b (held_words (held_at xs at)) h (held_read xs at) in
    whole_standing (reading_parts (reading_at xs)) xs (sym e) (
      words_stand xs 0 b (credits_words (credits_at xs 0)) (omega arith) (credits_read xs 0),
      (
        held 20 (omega arith),
        (
          held 28 (omega arith),
          (
            held 36 (omega arith),
            (
              held 44 (omega arith),
              (
                four_stands xs b 52 (omega arith),
                (four_stands xs b 68 (omega arith), (decided_stands xs b 84 (omega arith), (received_stands xs b 104 (omega arith), tt))),
              ),
            ),
          ),
        ),
      ),
    )

-- what the stage holds: a size has 14 bits
stage_fits : (w : ℕ) → WordsFit (held_words (held_on w))
stage_fits w = ⊎_elim (λ (e : w ≡ 0). rw (held_none w e) (omega arith)) (λ n. rw (held_one w n) (omega arith)) (split (w ≡? 0))

-- The reading of a station in range whose numbers fit does.
pub reading_fits : {st : Station} → StationOk st → StationFits st → ReadingFits (reading_of st)
reading_fits {st} ok f =
    let shown = ok.fair.of_smoothed in
    record {
      of_credits = f.of_credits;
      of_control = omega (arith, f.of_control.count, f.of_control.held);
      of_primary = omega (arith, f.of_primary.count, f.of_primary.held);
      of_secondary = omega (arith, f.of_secondary.count, f.of_secondary.held);
      of_stage = stage_fits st.flow.stage;
      of_counters = f.of_fair.of_counters;
      of_smoothed = omega (arith, shown);
      of_decided = f.of_fair.of_decided;
      of_received = f.of_fair.of_received;
    }

-- ---- the table of words

abbrev held_from : List ℕ → ℕ → Held
held_from xs k = record { frames = word_at xs k; bytes = word_at xs (k + 1) }

abbrev four_from : List ℕ → ℕ → Four
four_from xs k = record { add = word_at xs k; fw = word_at xs (k + 1); addc = word_at xs (k + 2); fwc = word_at xs (k + 3) }

-- Words 0 to 4 are the credits of M, A, B, C, D; 5, 7, 9 and 11 begin control, primary and secondary queue and stage (frames, bytes); 13 to 16 are
-- addRate, fwRate, addRateCongested, fwRateCongested, 17 to 20 the smoothed rates as they are shown, in the same order; 21 localFairRate, 22 allowedRate, 23
-- allowedRateCongested, 24 own rate; 25, 26 locally congested, downstream congested; 27 received ttl; 28, 29, 30 received address (high 16, low 32
-- bits), received rate.
pub by_words : (xs : List ℕ) → reading_at xs ≡ record {
  credits = record { m = word_at xs 0; a = word_at xs 1; b = word_at xs 2; c = word_at xs 3; d = word_at xs 4 };
  control = held_from xs 5;
  primary = held_from xs 7;
  secondary = held_from xs 9;
  stage = held_from xs 11;
  counters = four_from xs 13;
  smoothed = four_from xs 17;
  decided = record { local = word_at xs 21; allowed = word_at xs 22; allowedc = word_at xs 23; own = word_at xs 24; congested = word_at xs 25 };
  received = record { downstream = word_at xs 26; ttl = word_at xs 27; high = word_at xs 28; low = word_at xs 29; rate = word_at xs 30 };
}
unfolding reading_at credits_at
by_words xs = refl
