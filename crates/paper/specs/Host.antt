-- What the host is told by each exported call on a station and on the ring, byte by byte, and what it finds in the bytes that it lent: for the second condition.
-- The rules that make a station of another (`tick_of`, `select_of`, `hear_of` and so on) are said in `Acts` and `ByValue`; why a call is refused is the first
-- condition's, and calls on records and summaries are the third's.
-- Assumes nothing.
use Rattle.std.specs.Prelude.{ℕ, ◌+◌, ◌%◌, Bool, List, [], ◌∷◌, ◌++◌, ◌↔◌, ◌≡◌, length, Err}
use Rattle.decide.specs.Number.{number_in}
use Rattle.decide.specs.declared.refusal.Refusal.{Refusal}
use Rattle.wire.specs.Wire.{le, digits, Bytes}
use Rattle.settings.specs.declared.Settings.{Settings}
use Rattle.settings.specs.declared.Bucket.{Bucket}
use Rattle.settings.specs.Words.{settings_at}
use Rattle.advert.specs.Frame.{advert_length, advert_bytes}
use Rattle.fair.specs.Advertise.{told_of}
use Rattle.answer.specs.Bytes.{bit_of}
use Rattle.ring.specs.Choosing.{chosen_as, choose_of}
use Rattle.wrap.specs.Walking.{journey, path_of}
use Rattle.station.specs.declared.Station.{Station}
use Rattle.shaper.specs.Refused.{number_said, detail_said, afterwards}
use Rattle.station.specs.Answers.{origin_said, frame_said, rest_after}
use Rattle.station.specs.Calls.{fresh_of, tick_of, select_of, age_of}
use Rattle.station.specs.Offers.{mark_told, station_left, offer_client_of, offer_transit_of, offer_control_of}
use Rattle.station.specs.Hear.{changed_of, hear_of}
use Rattle.station.specs.Range.{StationOk}
use Rattle.layout.specs.Layout.{station_length, station_at, station_bytes, StationFits}
use Rattle.layout.specs.Reading.{reading_length}
use Rattle.rpr.specs.Ways.{choose_answer, path_answer}
use Rattle.rpr.specs.Station.{start_answer, start_after, tick_answer, tick_after, age_answer, age_after}
use Rattle.rpr.specs.Station.{offer_client_answer, offer_client_after, offer_transit_answer, offer_transit_after, offer_control_answer, offer_control_after}
use Rattle.rpr.specs.Station.{select_answer, select_after, read_frame_answer, read_frame_after, write_frame_answer, write_frame_after, show_answer, show_after}
use Rattle.rpr.specs.Says.{Keeps}
use Rattle.rpr.specs.Reading.{ShowsWords}

-- ---- calls on a station in range

-- Byte 0 of the answer is the number that the rules give. Where it is 0 the other seven bytes say this. The lent bytes hold the station that the rules leave.
pub record Serves (answer : ℕ) (after : List ℕ) (number : ℕ) (said : List ℕ) (next : Station) : Type 0 where
  pub numbered : answer % 256 ≡ number
  pub says : number ≡ 0 → digits 8 answer ≡ 0 ∷ said
  pub keeps : Keeps after next

abbrev pub nothing_more : List ℕ
nothing_more = 0 ∷ 0 ∷ 0 ∷ 0 ∷ 0 ∷ 0 ∷ 0 ∷ []

-- Bytes xs are lent that hold the station st, which is in range.
pub record Hosts (xs : List ℕ) (st : Station) : Type 0 where
  pub tick : (a b c : ℕ) → Serves (tick_answer xs a b c) (tick_after xs a b c) (number_said (tick_of st a b c)) nothing_more (afterwards st (tick_of st a b c))
  -- Byte 4: the mark that the frame got, eligible or not.
  pub offer_client_lem : (class size hops : ℕ)
      → let r = offer_client_of st class size hops in
      Serves (offer_client_answer xs class size hops) (offer_client_after xs class size hops) (number_said r) (0 ∷ 0 ∷ 0 ∷ mark_told r ∷ 0 ∷ 0 ∷ 0 ∷ []) (station_left st r)
  -- Refused with 6, bytes 4 to 7: the shortfall.
  pub offer_client_short : (class size hops : ℕ)
      → let r = offer_client_of st class size hops in
      number_said r ≡ 6 → digits 8 (offer_client_answer xs class size hops) ≡ (6 ∷ 0 ∷ 0 ∷ 0 ∷ []) ++ digits 4 (detail_said r)
  pub offer_transit_lem : (class size hops eligible : ℕ)
      → let r = offer_transit_of st class size hops eligible in
      Serves (offer_transit_answer xs class size hops eligible) (offer_transit_after xs class size hops eligible) (number_said r) nothing_more (afterwards st r)
  pub offer_control_lem : (size : ℕ)
      → Serves (offer_control_answer xs size) (offer_control_after xs size) (number_said (offer_control_of st size)) nothing_more (afterwards st (offer_control_of st size))
  -- Byte 1 origin, 2 class, 3 hops, 4 eligible, 5 is 0, 6 and 7 size; all 0 for nothing.
  pub select :
      let r = select_of st in
      Serves (select_answer xs) (select_after xs) 0
      ((origin_said r ∷ (frame_said r).class ∷ (frame_said r).hops ∷ (frame_said r).mark ∷ 0 ∷ []) ++ digits 2 (frame_said r).size) (rest_after st r)
  pub select_nothing : origin_said (select_of st) ≡ 0 → select_answer xs ≡ 0
  pub age : Serves (age_answer xs) (age_after xs) 0 nothing_more (afterwards st (age_of st))
  pub read_frame_lem : (frame : List ℕ) → Bytes frame
      → Serves (read_frame_answer xs frame) (read_frame_after xs frame) (number_said (hear_of st frame)) nothing_more (afterwards st (hear_of st frame))
  -- The room of 12 bytes holds the frame that the station advertises.
  pub write_frame_lem : (room : List ℕ) → length room ≡ advert_length
      → (write_frame_answer xs room ≡ 0) × (write_frame_after xs room ≡ advert_bytes (told_of st.fair st.settings))
  -- Reading a written frame, with the same ringlet and number of stations but an address it doesn't bear, is not refused, and takes what was told: ys are
  -- lent that hold the station t, which is in range.
  pub written_read : (room : List ℕ) → length room ≡ advert_length → {ys : List ℕ} {t : Station} → Keeps ys t
      → t.settings.ringlet ≡ st.settings.ringlet → t.settings.site.stations ≡ st.settings.site.stations
      → (((told_of st.fair st.settings).high ≡ t.settings.address.high) × ((told_of st.fair st.settings).low ≡ t.settings.address.low) → ⊥)
      → (read_frame_answer ys (write_frame_after xs room) ≡ 0)
      × Keeps (read_frame_after ys (write_frame_after xs room)) (changed_of t (told_of st.fair st.settings))
  -- The room holds the reading, word by word.
  pub show : (room : List ℕ) → length room ≡ reading_length → (show_answer xs room ≡ 0) × ShowsWords (show_after xs room) st

-- ---- start

-- three words of a shaper: loLimit, hiLimit, amount
abbrev pub ShaperWords : List ℕ → ℕ → Bucket → Type 0
ShaperWords xs at b = (b.lo ≡ le 4 xs at) × (b.hi ≡ le 4 xs (at + 4)) × (b.amount ≡ le 4 xs (at + 8))

-- The settings that 34 words of 4 bytes hold: word k stands at byte 4 × k.
pub record SettingsWords (xs : List ℕ) (s : Settings) : Type 0 where
  pub address : (s.address.high ≡ le 4 xs 0) × (s.address.low ≡ le 4 xs 4)
  pub ringlet : s.ringlet ≡ le 4 xs 8
  pub mtu : s.mtu ≡ le 4 xs 12
  pub m : ShaperWords xs 16 s.shapers.m
  pub a : ShaperWords xs 28 s.shapers.a
  pub b : ShaperWords xs 40 s.shapers.b
  pub c : ShaperWords xs 52 s.shapers.c
  pub d : ShaperWords xs 64 s.shapers.d
  pub queues : (s.queues.control ≡ le 4 xs 76) × (s.queues.primary ≡ le 4 xs 80) × (s.queues.secondary ≡ le 4 xs 84) × (s.queues.threshold ≡ le 4 xs 88)
  pub rates : (s.fairness.weight ≡ le 4 xs 92) × (s.fairness.unit ≡ le 4 xs 96) × (s.fairness.ticks ≡ le 4 xs 100) × (s.fairness.unreserved ≡ le 4 xs 104)
  pub coefficients : (s.fairness.age ≡ le 4 xs 108) × (s.fairness.lp ≡ le 4 xs 112) × (s.fairness.ramp ≡ le 4 xs 116)
  pub stations : s.site.stations ≡ le 4 xs 120
  pub method : (s.site.method ≡ le 4 xs 124) × (s.site.trip ≡ le 4 xs 128) × (s.site.down ≡ le 4 xs 132)

-- rpr_start with settings in range: the station is fresh, whatever its bytes were.
abbrev pub Begins : List ℕ → List ℕ → Type 0
Begins settings xs = (start_answer settings xs ≡ 0) × Keeps (start_after settings xs) (fresh_of (settings_at settings 0))

-- ---- the ring

-- rpr_choose where a side is chosen: byte 1 side (1 left, 2 right), 2 distance, 3 ttl, 4 wrap mark.
abbrev pub ChoiceTold : Type 0
ChoiceTold =
    (stations own target links side protection ring code distance ttl : ℕ) (mark : Bool)
    → choose_of stations own target links side protection ring ≡ chosen_as code distance ttl mark
    → digits 8 (choose_answer stations own target links side protection ring) ≡ 0 ∷ code ∷ distance ∷ ttl ∷ bit_of mark ∷ 0 ∷ 0 ∷ 0 ∷ []

-- and where there is no choice, the number alone
abbrev pub ChoiceRefused : Type 0
ChoiceRefused =
    (stations own target links side protection ring : ℕ) (r : Refusal) → choose_of stations own target links side protection ring ≡ Err r
    → choose_answer stations own target links side protection ring ≡ number_in r

-- rpr_path where the path is walked: byte 1 delivered, 2 hops.
abbrev pub PathTold : Type 0
PathTold =
    (stations own target links home : ℕ) (delivered : Bool) (hops : ℕ) → path_of stations own target links home ≡ journey delivered hops
    → digits 8 (path_answer stations own target links home) ≡ 0 ∷ bit_of delivered ∷ hops ∷ 0 ∷ 0 ∷ 0 ∷ 0 ∷ 0 ∷ []

-- and where it is not, the number alone
abbrev pub PathRefused : Type 0
PathRefused =
    (stations own target links home : ℕ) (r : Refusal) → path_of stations own target links home ≡ Err r → path_answer stations own target links home ≡ number_in r

-- ---- a station in bytes

-- The layout is the library's own: it is one to one, so bytes that hold a station are the only ones that do.
pub record Lays : Type 0 where
  pub back : (st : Station) → StationFits st → station_at (station_bytes st) ≡ st
  pub again : (xs : List ℕ) → Bytes xs → length xs ≡ station_length → station_bytes (station_at xs) ≡ xs
  pub whole : (st : Station) → StationFits st → length (station_bytes st) ≡ station_length
  pub bytes : (st : Station) → Bytes (station_bytes st)
  pub fits : (xs : List ℕ) → Bytes xs → length xs ≡ station_length → StationFits (station_at xs)
  -- bytes that keep a station in range
  pub keeps : (xs : List ℕ) (st : Station) → Keeps xs st ↔ (Bytes xs × (length xs ≡ station_length) × (station_at xs ≡ st) × StationOk st)
