-- What one call says and leaves, where the bytes that it is lent are a station's.
-- Assumes nothing.
use Rattle.std.specs.Prelude.{ℕ, ◌+◌, true, false, List, [], ◌∷◌, ◌⊎◌, ◌≡◌, length}
use Rattle.decide.specs.Test.{test}
use Rattle.decide.specs.Refusal.{refused_or}
use Rattle.wire.specs.Wire.{Bytes}
use Rattle.settings.specs.Range.{settings_ok}
use Rattle.settings.specs.Words.{settings_at, settings_length}
use Rattle.station.specs.declared.Station.{Station}
use Rattle.station.specs.Range.{StationOk}
use Rattle.station.specs.Calls.{fresh_of}
use Rattle.station.specs.Offers.{short_for}
use Rattle.station.specs.History as station
use Rattle.station.specs.History.{Call, Answer, step}
use Rattle.advert.specs.Frame.{advert_length}
use Rattle.layout.specs.Layout.{station_length, station_at, station_bytes}
use Rattle.layout.specs.Reading.{reading_length}
use Rattle.answer.specs.Bytes.{packed, mark_bytes, selected_bytes}
use Rattle.rpr.specs.Shape.{short_told}
use Rattle.rpr.specs.Station.{start_answer, start_after}
use Rattle.rpr.specs.Lent.{LentCall, start, tick, offer_client, offer_transit, offer_control, select, age, read_frame, write_frame, show}
use Rattle.rpr.specs.Lent.{answer_to, left_by, calls_of, StartsWith}

-- ---- a station that is kept in bytes

-- the bytes hold this station, which is in range
pub record Keeps (xs : List ℕ) (st : Station) : Type 0 where
  pub bytes : Bytes xs
  pub whole : length xs ≡ station_length
  pub holds : station_at xs ≡ st
  pub in_range_lem : StationOk st

-- ---- what a call on it says

-- What the answer's bytes say of a call that was carried out: byte 4 the mark of a client's frame; where the selected frame came from, and that frame.
abbrev pub said_of : Answer → ℕ
said_of r = packed (mark_bytes r.mark) + packed (selected_bytes r.origin r.frame)

-- What a refusal's bytes say: its number alone; to a client's frame 6 also says how far short.
abbrev pub refusal_to : Call → Station → ℕ → ℕ
refusal_to (station.tick a b c) st n = n
refusal_to (station.offer_client class size hops) st n = short_told (short_for st class) n
refusal_to (station.offer_transit class size hops eligible) st n = n
refusal_to (station.offer_control size) st n = n
refusal_to station.select st n = n
refusal_to station.age st n = n
refusal_to (station.hear frame bytes) st n = n
refusal_to station.tell st n = n
refusal_to station.show st n = n

-- A call's answer: a refusal, or what was said. A refusal leaves the station's bytes; else they are those of the station that the call left.
abbrev pub answer_given : Call → Station → ℕ
answer_given call st = refused_or (refusal_to call st) (step call st).answer.number (said_of (step call st).answer)

abbrev pub bytes_left : Call → List ℕ → Station → List ℕ
bytes_left call xs st = refused_or (λ n. xs) (step call st).answer.number (station_bytes (step call st).station)

-- the room that a call writes to has its length; a call without a room has nothing to meet
abbrev pub RoomFits : LentCall → Type 0
RoomFits (start settings bytes) = Unit {0}
RoomFits (tick a b c) = Unit {0}
RoomFits (offer_client class size hops) = Unit {0}
RoomFits (offer_transit class size hops eligible) = Unit {0}
RoomFits (offer_control size) = Unit {0}
RoomFits select = Unit {0}
RoomFits age = Unit {0}
RoomFits (read_frame frame bytes) = Unit {0}
RoomFits (write_frame room) = length room ≡ advert_length
RoomFits (show room) = length room ≡ reading_length

-- That; and 2 exactly for a room of another length.
pub record CallSays (c : LentCall) (xs : List ℕ) (st : Station) : Type 0 where
  pub call : Call
  pub is : calls_of c ≡ call ∷ []
  pub answers : RoomFits c → answer_given call st ≡ answer_to c xs
  pub other_room : (RoomFits c → ⊥) → 2 ≡ answer_to c xs
  pub leaves : bytes_left call xs st ≡ left_by c xs

-- A start with settings of another length is 2, and with settings outside their range 1: then the bytes are as they were. Else they are a fresh station's.
pub record StartSays (settings xs : List ℕ) : Type 0 where
  pub other_length : (length settings ≡ settings_length → ⊥) → (2 ≡ start_answer settings xs) × (xs ≡ start_after settings xs)
  pub out_of_range : length settings ≡ settings_length → test (settings_ok (settings_at settings 0)) ≡ false → (1 ≡ start_answer settings xs) × (xs ≡ start_after settings xs)
  pub fresh : length settings ≡ settings_length → test (settings_ok (settings_at settings 0)) ≡ true
      → (0 ≡ start_answer settings xs) × (station_bytes (fresh_of (settings_at settings 0)) ≡ start_after settings xs)

abbrev pub LentSays : LentCall → List ℕ → Station → Type 0
LentSays c xs st = ((settings : List ℕ) × StartsWith settings c × StartSays settings xs) ⊎ CallSays c xs st
