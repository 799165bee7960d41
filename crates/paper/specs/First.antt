-- The first condition of acceptance, in its own words, call by call.
--
-- "Every call ends, on every input, without undefined behaviour": each exported function is proved, and none has a condition that its caller must meet. No
-- field below says so: a function of this language is accepted only where it is proved to end and to be defined.
-- "Bad settings, frames or records get document 01's refusal number, first fault first, and station and lent memory then stay exactly as before": below. What
-- each number is given for is said in `Reasons`, as facts.
-- "Refusal 6 returns its number and this shortfall": in `RefusesClient`.
-- Assumes nothing.
use Rattle.std.specs.Prelude.{ℕ, ◌+◌, ◌%◌, ◌≤◌, ◌<◌, true, List, [], ◌∷◌, ◌++◌, ◌⊎◌, ◌↔◌, ◌≡◌, length}
use Rattle.wire.specs.Wire.{Bytes, digits}
use Rattle.decide.specs.Test.{test, Holds}
use Rattle.decide.specs.Refusal.{first_of}
use Rattle.ring.specs.Choosing.{place_faults}
use Rattle.shaper.specs.declared.Limits.{Limits}
use Rattle.shaper.specs.Limits.{most_events, most_amount, most_size, limits_ok, LimitsOk}
use Rattle.summary.specs.declared.Summary.{Summary}
use Rattle.summary.specs.Range.{in_range, InRange}
use Rattle.record.specs.Items.{most_of_run}
use Rattle.settings.specs.declared.Settings.{Settings}
use Rattle.settings.specs.Range.{settings_ok, AgeCoef, Coef, SettingsOk}
use Rattle.flow.specs.declared.Flow.{Flow}
use Rattle.flow.specs.Range.{flow_ok, FlowOk}
use Rattle.fair.specs.declared.Fair.{Fair}
use Rattle.fair.specs.Range.{fair_ok, FairOk}
use Rattle.station.specs.declared.Station.{Station}
use Rattle.station.specs.Range.{station_ok, StationOk}
use Rattle.layout.specs.Layout.{station_length, station_at}
use Rattle.settings.specs.Words.{settings_length}
use Rattle.queue.specs.declared.Queue.{Queue}
use Rattle.queue.specs.declared.Frame.{Frame}
use Rattle.queue.specs.declared.Bounds.{Bounds}
use Rattle.queue.specs.Frame.{hops_ok, frame_ok, FrameOk, held_ok, HeldOk}
use Rattle.queue.specs.Range.{AllOk, queue_ok, QueueOk}
use Rattle.advert.specs.Frame.{advert_length}
use Rattle.credits.specs.declared.Which.{Which}
use Rattle.credits.specs.declared.Which.TheVariants.{A, C, D}
use Rattle.credits.specs.Which.{bucket_of, credit_of}
use Rattle.flow.specs.Offer.{queue_for}
use Rattle.sheet.specs.Sheet.{sheet_length}
use Rattle.layout.specs.Reading.{reading_length}
use Rattle.heartbeat.specs.Heartbeat.{heartbeat_answer}
use Rattle.rpr.specs.Calls.{summarize_answer, summarize_after, join_answer, join_after, settle_answer}
use Rattle.rpr.specs.Movers.{roll_answer, roll_after, unroll_answer, unroll_after}
use Rattle.rpr.specs.Ways.{choose_answer, path_answer}
use Rattle.rpr.specs.Station.{start_answer, start_after, tick_answer, tick_after, age_answer, age_after}
use Rattle.rpr.specs.Station.{offer_client_answer, offer_client_after, offer_transit_answer, offer_transit_after, offer_control_answer, offer_control_after}
use Rattle.rpr.specs.Station.{select_answer, select_after, read_frame_answer, read_frame_after, write_frame_answer, write_frame_after, show_answer, show_after}
use Rattle.paper.specs.Reasons.{CarriedOut, place_refused, OtherLength, Spaces, start_refused, tick_refused, offer_refused, control_refused, client_refused, station_refused, read_refused, room_refused}
use Rattle.paper.specs.Reasons.{choose_refused, path_refused, RecordRefused, RollRefused, UnrollRefused, HeartbeatRefused, join_refused, settle_refused}

-- Byte 0 of the answer is the number that is given. Each returns its number alone, but a client's 6 (`RefusesClient`): where it is not 0, every other byte is 0.
pub record Refuses (given : ℕ → Type 0) (answer : ℕ) : Type 0 where
  pub number : given (answer % 256)
  pub alone : 0 < answer % 256 → digits 8 answer ≡ answer % 256 ∷ 0 ∷ 0 ∷ 0 ∷ 0 ∷ 0 ∷ 0 ∷ 0 ∷ []

-- And it leaves the bytes that are lent for writing untouched.
pub record RefusesLent (given : ℕ → Type 0) (answer : ℕ) (before after : List ℕ) : Type 0 where
  pub refuses : Refuses given answer
  pub stays : 0 < answer % 256 → after ≡ before

-- What 6 returns beside its number, in bytes 4 to 7: the least amount whose addition would make each credit exceed its loLimit, 1 to 65,537.
pub record ReturnsShort (exceed : ℕ → Type 0) (answer : ℕ) : Type 0 where
  pub short : ℕ
  pub bytes : digits 8 answer ≡ (6 ∷ 0 ∷ 0 ∷ 0 ∷ []) ++ digits 4 short
  pub least : (x : ℕ) → (short ≤ x) ↔ exceed x
  pub fits : (1 ≤ short) × (short ≤ 65537)

-- with x added, the credit of this shaper exceeds its loLimit
abbrev pub Exceeds : Station → Which → ℕ → Type 0
Exceeds st w x = (bucket_of st.settings w).lo < credit_of st.flow.credits w + x

-- rpr_offer_client: 6 returns its number and this shortfall, every other its number alone.
pub record RefusesClient (station : List ℕ) (class size hops answer : ℕ) (after : List ℕ) : Type 0 where
  pub number : client_refused station class size hops (answer % 256)
  -- Client A needs A.
  pub short_a : answer % 256 ≡ 6 → class ≡ 0 → ReturnsShort (Exceeds (station_at station) A) answer
  -- Where two shapers are needed, the larger; for client B that of the excess attempt, which needs C and D. Client C is excess.
  pub short_excess : answer % 256 ≡ 6 → (class ≡ 0 → ⊥) → ReturnsShort (λ x. Exceeds (station_at station) C x × Exceeds (station_at station) D x) answer
  pub alone : 0 < answer % 256 → (answer % 256 ≡ 6 → ⊥) → digits 8 answer ≡ answer % 256 ∷ 0 ∷ 0 ∷ 0 ∷ 0 ∷ 0 ∷ 0 ∷ 0 ∷ []
  pub stays : 0 < answer % 256 → after ≡ station

-- rpr_summarize: a wrong room is 2 first, then the record's earliest fault.
pub record RefusesRecord (bytes room : List ℕ) : Type 0 where
  pub other_room : OtherLength sheet_length room → summarize_answer bytes room % 256 ≡ 2
  pub fault : length room ≡ sheet_length → (n : ℕ) → 0 < n → (summarize_answer bytes room % 256 ≡ n) ↔ RecordRefused bytes n
  pub alone : 0 < summarize_answer bytes room % 256 → digits 8 (summarize_answer bytes room) ≡ summarize_answer bytes room % 256 ∷ 0 ∷ 0 ∷ 0 ∷ 0 ∷ 0 ∷ 0 ∷ 0 ∷ []
  pub stays : 0 < summarize_answer bytes room % 256 → summarize_after bytes room ≡ room

-- rpr_roll and rpr_unroll: the record's earliest fault, then 12 where the room is too short.
pub record RefusesMover (given : ℕ → Type 0) (answer : ℕ) (room after : List ℕ) : Type 0 where
  pub number : (n : ℕ) → 0 < n → (answer % 256 ≡ n) ↔ given n
  pub alone : 0 < answer % 256 → digits 8 answer ≡ answer % 256 ∷ 0 ∷ 0 ∷ 0 ∷ 0 ∷ 0 ∷ 0 ∷ 0 ∷ []
  pub stays : 0 < answer % 256 → after ≡ room

-- rpr_heartbeat: the pattern's earliest fault, then 9 where the repeats have too many events. It is lent nothing for writing.
pub record RefusesHeartbeat (bytes : List ℕ) (repeats answer : ℕ) : Type 0 where
  pub number : (n : ℕ) → 0 < n → (answer % 256 ≡ n) ↔ HeartbeatRefused bytes repeats n
  pub alone : 0 < answer % 256 → digits 8 answer ≡ answer % 256 ∷ 0 ∷ 0 ∷ 0 ∷ 0 ∷ 0 ∷ 0 ∷ 0 ∷ []

-- the tests of ranges that refusals rest on, and the ranges
pub record Tested : Type 0 where
  pub limits : (l : Limits) → (test (limits_ok l) ≡ true) ↔ LimitsOk l
  pub summary : (s : Summary) → (in_range s ≡ true) ↔ InRange s
  pub settings : (s : Settings) → (test (settings_ok s) ≡ true) ↔ SettingsOk s
  pub frame : (b : Bounds) (x : Frame) → (test (frame_ok b x) ≡ true) ↔ FrameOk b x
  pub held : (b : Bounds) (x : Frame) → (test (held_ok b x) ≡ true) ↔ HeldOk b x
  -- the frames of a queue, each of which may be held
  pub no_frame : (b : Bounds) → AllOk b []
  pub a_frame : (b : Bounds) (x : Frame) (xs : List Frame) → AllOk b (x ∷ xs) ↔ (HeldOk b x × AllOk b xs)
  -- ageCoef 1, 2, 4, 8 or 16; lpCoef, rampUp and rampDn 16, 32, 64, 128, 256 or 512
  pub age_coef : (x : ℕ) → AgeCoef x ↔ ((x ≡ 1) ⊎ ((x ≡ 2) ⊎ ((x ≡ 4) ⊎ ((x ≡ 8) ⊎ (x ≡ 16)))))
  pub coef : (x : ℕ) → Coef x ↔ ((x ≡ 16) ⊎ ((x ≡ 32) ⊎ ((x ≡ 64) ⊎ ((x ≡ 128) ⊎ ((x ≡ 256) ⊎ (x ≡ 512))))))
  pub queue : (b : Bounds) (capacity : ℕ) (q : Queue) → (test (queue_ok b capacity q) ≡ true) ↔ QueueOk b capacity q
  pub flow : (s : Settings) (f : Flow) → (test (flow_ok s f) ≡ true) ↔ FlowOk s f
  pub fair : (s : Settings) (f : Fair) → (test (fair_ok s f) ≡ true) ↔ FairOk s f
  pub station : (st : Station) → (test (station_ok st) ≡ true) ↔ StationOk st

-- A row for each exported call; `rpr_station_length` and `rpr_version` refuse nothing.
pub record Condition1 : Type 0 where
  -- The numbers that bound a record's events, which the ranges below name: 1,000,000 events, amount 65,535, size 9,216, and 65,535 equal ticks in a run.
  pub bounds : (most_events ≡ 1000000) × (most_amount ≡ 65535) × (most_size ≡ 9216) × (most_of_run ≡ 65535)
  -- The lengths that a slice of another length is refused for: settings 34 words, a summary 48 bytes, a reading 31 words, a frame 12 bytes. A station's is
  -- the library's own, and one that a host can lend.
  pub lengths : (settings_length ≡ 136) × (sheet_length ≡ 48) × (reading_length ≡ 124) × (advert_length ≡ 12) × (station_length < 65536)
  pub hops : (h : ℕ) → Holds (hops_ok h) ↔ ((1 ≤ h) × (h ≤ 63))
  -- The library's own tests of ranges say the same.
  pub tested : Tested
  pub start : (settings station : List ℕ) → RefusesLent (start_refused settings station) (start_answer settings station) station (start_after settings station)
  pub tick : (station : List ℕ) (a b c : ℕ) → RefusesLent (tick_refused station a b c) (tick_answer station a b c) station (tick_after station a b c)
  pub offer_client_lem : (station : List ℕ) (class size hops : ℕ)
      → RefusesClient station class size hops (offer_client_answer station class size hops) (offer_client_after station class size hops)
  pub offer_transit_lem : (station : List ℕ) (class size hops eligible : ℕ)
      → RefusesLent (offer_refused station (queue_for (station_at station).settings class) (record { size = size; hops = hops; class = class; mark = eligible })) (offer_transit_answer station class size hops eligible)
      station (offer_transit_after station class size hops eligible)
  pub offer_control_lem : (station : List ℕ) (size : ℕ)
      → RefusesLent (control_refused station size) (offer_control_answer station size) station (offer_control_after station size)
  pub control_in_ring : (station : List ℕ) (size : ℕ) → offer_control_answer station size % 256 ≡ 13 → ⊥
  -- how much room a queue in range has, for 4
  pub space : (b : Bounds) (capacity : ℕ) (q : Queue) → QueueOk b capacity q → Spaces capacity q
  pub select : (station : List ℕ) → RefusesLent (station_refused station) (select_answer station) station (select_after station)
  pub age : (station : List ℕ) → RefusesLent (station_refused station) (age_answer station) station (age_after station)
  pub read_frame_lem : (station frame : List ℕ) → RefusesLent (read_refused station frame) (read_frame_answer station frame) station (read_frame_after station frame)
  pub write_frame_lem : (station room : List ℕ) → RefusesLent (room_refused advert_length station room) (write_frame_answer station room) room (write_frame_after station room)
  pub show : (station room : List ℕ) → RefusesLent (room_refused reading_length station room) (show_answer station room) room (show_after station room)
  pub choose : (stations own target links side protection ring : ℕ)
      → Refuses (choose_refused stations own target links side protection ring) (choose_answer stations own target links side protection ring)
  -- the number of a place on a ring, which choice and path share
  pub place : (stations own target links : ℕ) → place_refused stations own target links CarriedOut (first_of (place_faults stations own target links))
  pub path : (stations own target links home : ℕ) → Refuses (path_refused stations own target links home) (path_answer stations own target links home)
  pub summarize : (bytes room : List ℕ) → Bytes bytes → RefusesRecord bytes room
  pub join : (first second room : List ℕ) → RefusesLent (join_refused first second room) (join_answer first second room) room (join_after first second room)
  pub settle : (summary : List ℕ) (start : ℕ) → Refuses (settle_refused summary start) (settle_answer summary start)
  pub roll : (bytes room : List ℕ) → Bytes bytes → RefusesMover (RollRefused bytes room) (roll_answer bytes room) room (roll_after bytes room)
  pub unroll : (bytes room : List ℕ) → Bytes bytes → RefusesMover (UnrollRefused bytes room) (unroll_answer bytes room) room (unroll_after bytes room)
  -- of the second archive, librpr_heartbeat.a
  pub heartbeat : (bytes : List ℕ) (repeats : ℕ) → Bytes bytes → RefusesHeartbeat bytes repeats (heartbeat_answer bytes repeats)
