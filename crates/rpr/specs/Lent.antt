-- Histories on memory. The controller keeps the station in one piece of memory and lends it for each call: any calls one after the other, other lengths,
-- refused arguments and refused starts among them. Assumes nothing.
use Rattle.std.specs.Prelude.{ℕ, cond, List, [], ◌∷◌, ◌++◌, ◌≡◌, eqb, length, take, drop}
use Rattle.wire.specs.Wire.{Bytes}
use Rattle.station.specs.declared.Station.{Station}
use Rattle.station.specs.History as station
use Rattle.station.specs.History.{Call}
use Rattle.layout.specs.Layout.{station_length, station_at}
use Rattle.rpr.specs.Station.{start_answer, start_after, tick_answer, tick_after, age_answer, age_after}
use Rattle.rpr.specs.Station.{offer_client_answer, offer_client_after, offer_transit_answer, offer_transit_after, offer_control_answer, offer_control_after}
use Rattle.rpr.specs.Station.{select_answer, select_after, read_frame_answer, read_frame_after}
use Rattle.rpr.specs.Station.{write_frame_answer, show_answer}

-- ---- one call

-- Every exported call on a station, with any numbers, any bytes for settings and for a frame, and any room.
pub data LentCall : Type 0 where
  start : (settings : List ℕ) → Bytes settings → LentCall
  tick : (a b c : ℕ) → LentCall
  offer_client : (class size hops : ℕ) → LentCall
  offer_transit : (class size hops eligible : ℕ) → LentCall
  offer_control : (size : ℕ) → LentCall
  select : LentCall
  age : LentCall
  read_frame : (frame : List ℕ) → Bytes frame → LentCall
  write_frame : (room : List ℕ) → LentCall
  show : (room : List ℕ) → LentCall

-- what it answers where these bytes are lent for the station,
abbrev pub answer_to : LentCall → List ℕ → ℕ
answer_to (start settings bytes) xs = start_answer settings xs
answer_to (tick a b c) xs = tick_answer xs a b c
answer_to (offer_client class size hops) xs = offer_client_answer xs class size hops
answer_to (offer_transit class size hops eligible) xs = offer_transit_answer xs class size hops eligible
answer_to (offer_control size) xs = offer_control_answer xs size
answer_to select xs = select_answer xs
answer_to age xs = age_answer xs
answer_to (read_frame frame bytes) xs = read_frame_answer xs frame
answer_to (write_frame room) xs = write_frame_answer xs room
answer_to (show room) xs = show_answer xs room

-- and how it leaves them: for writing a frame and for showing they are lent for reading alone
abbrev pub left_by : LentCall → List ℕ → List ℕ
left_by (start settings bytes) xs = start_after settings xs
left_by (tick a b c) xs = tick_after xs a b c
left_by (offer_client class size hops) xs = offer_client_after xs class size hops
left_by (offer_transit class size hops eligible) xs = offer_transit_after xs class size hops eligible
left_by (offer_control size) xs = offer_control_after xs size
left_by select xs = select_after xs
left_by age xs = age_after xs
left_by (read_frame frame bytes) xs = read_frame_after xs frame
left_by (write_frame room) xs = xs
left_by (show room) xs = xs

-- The call that it is on the station: a start is none.
abbrev pub calls_of : LentCall → List Call
calls_of (start settings bytes) = []
calls_of (tick a b c) = station.tick a b c ∷ []
calls_of (offer_client class size hops) = station.offer_client class size hops ∷ []
calls_of (offer_transit class size hops eligible) = station.offer_transit class size hops eligible ∷ []
calls_of (offer_control size) = station.offer_control size ∷ []
calls_of select = station.select ∷ []
calls_of age = station.age ∷ []
calls_of (read_frame frame bytes) = station.hear frame bytes ∷ []
calls_of (write_frame room) = station.tell ∷ []
calls_of (show room) = station.show ∷ []

-- it is a start with these settings,
abbrev pub StartsWith : List ℕ → LentCall → Type 0
StartsWith settings c = (bytes : Bytes settings) × (c ≡ start settings bytes)

-- and a new start where it is carried out, which is where it answers 0
abbrev pub NewStart : LentCall → List ℕ → Type 0
NewStart c xs = (settings : List ℕ) × StartsWith settings c × (answer_to c xs ≡ 0)

-- ---- on memory

-- a call, and how many bytes of the memory are lent for the station, from its first on
pub record Lending : Type 0 where
  pub count : ℕ
  pub call : LentCall

abbrev pub lent_to : Lending → List ℕ → List ℕ
lent_to l mem = take l.count mem

-- the memory afterwards: what is behind the lent bytes stays
abbrev pub memory_after : Lending → List ℕ → List ℕ
memory_after l mem = left_by l.call (lent_to l mem) ++ drop l.count mem

-- Each is lent what the one before left.
abbrev pub memory_through : List ℕ → List Lending → List ℕ
memory_through mem [] = mem
memory_through mem (l ∷ ls) = memory_through (memory_after l mem) ls

-- None is a new start: each start among them is refused.
abbrev pub NoNewStart : List ℕ → List Lending → Type 0
NoNewStart mem [] = Unit {0}
NoNewStart mem (l ∷ ls) = (NewStart l.call (lent_to l mem) → ⊥) × NoNewStart (memory_after l mem) ls

-- The calls that the station had: another length is 2, and no call on it.
abbrev pub calls_on : List ℕ → List Lending → List Call
calls_on mem [] = []
calls_on mem (l ∷ ls) = cond (eqb (length (lent_to l mem)) station_length) (calls_of l.call) [] ++ calls_on (memory_after l mem) ls

-- memory whose first bytes were lent to rpr_start
abbrev pub started_in : List ℕ → List ℕ → List ℕ
started_in settings mem = start_after settings (take station_length mem) ++ drop station_length mem

-- the station in the memory
abbrev pub station_in : List ℕ → Station
station_in mem = station_at (take station_length mem)
