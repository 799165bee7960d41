-- What each call on a station answers, and what it leaves in the slice that is lent for writing. A station's bytes are xs, and the station that they hold is
-- `station_at xs`; 2 is given first, for a slice of another length. Assumes nothing.
use Rattle.std.specs.Prelude.{ℕ, List, ◌∷◌, eqb}
use Rattle.decide.specs.Refusal.{Fault}
use Rattle.settings.specs.Words.{settings_length, settings_at}
use Rattle.queue.specs.declared.Frame.{Frame}
use Rattle.advert.specs.Frame.{advert_length, advert_bytes, advert_in}
use Rattle.flow.specs.declared.Line.{Line}
use Rattle.flow.specs.declared.Line.TheVariants.{Control}
use Rattle.shaper.specs.Refused.{afterwards}
use Rattle.flow.specs.Offer.{queue_for, control_frame, mark_said, flow_after, enter_of}
use Rattle.fair.specs.Advertise.{told_of}
use Rattle.station.specs.Answers.{with_flow, chosen_of}
use Rattle.station.specs.Calls.{start_faults, fresh_of, tick_faults, ticked_of, select_faults, age_faults, aged_of}
use Rattle.station.specs.Offers.{given_frame, offer_faults, offer_client_faults, staging, short_for}
use Rattle.station.specs.Hear.{hear_faults, changed_of, tell_faults}
use Rattle.station.specs.Show.{show_faults, reading_of}
use Rattle.layout.specs.Layout.{station_length, station_at, station_bytes}
use Rattle.layout.specs.Reading.{reading_length, reading_bytes}
use Rattle.answer.specs.Bytes.{packed, mark_bytes, selected_bytes}
use Rattle.rpr.specs.Shape.{answer_of, short_answer_of, after_of, other_length_of}

-- ---- rpr_start

-- 2, then 1 of the settings. What the station's bytes were is not asked.
abbrev pub start_rows : List ℕ → List ℕ → List Fault
start_rows settings xs = other_length_of settings_length settings ∷ other_length_of station_length xs ∷ start_faults (settings_at settings 0)

unfoldable pub start_answer : List ℕ → List ℕ → ℕ
start_answer settings xs = answer_of (start_rows settings xs) 0

-- The station is fresh, whatever its bytes were.
unfoldable pub start_after : List ℕ → List ℕ → List ℕ
start_after settings xs = after_of (start_rows settings xs) xs (station_bytes (fresh_of (settings_at settings 0)))

-- ---- rpr_tick

abbrev pub tick_rows : List ℕ → ℕ → ℕ → ℕ → List Fault
tick_rows xs a b c = other_length_of station_length xs ∷ tick_faults (station_at xs) a b c

unfoldable pub tick_answer : List ℕ → ℕ → ℕ → ℕ → ℕ
tick_answer xs a b c = answer_of (tick_rows xs a b c) 0

-- The host's tick says whether A, B, C traffic waits.
unfoldable pub tick_after : List ℕ → ℕ → ℕ → ℕ → List ℕ
tick_after xs a b c = after_of (tick_rows xs a b c) xs (station_bytes (ticked_of (station_at xs) (eqb a 1) (eqb b 1) (eqb c 1)))

-- ---- rpr_offer_client

abbrev pub offer_client_rows : List ℕ → ℕ → ℕ → ℕ → List Fault
offer_client_rows xs class size hops = other_length_of station_length xs ∷ offer_client_faults (station_at xs) class size hops

-- The answer holds the mark that the frame got; refused with 6, how far short the shapers are that it needs.
unfoldable pub offer_client_answer : List ℕ → ℕ → ℕ → ℕ → ℕ
offer_client_answer xs class size hops =
    short_answer_of (offer_client_rows xs class size hops) (short_for (station_at xs) class) (packed (mark_bytes (mark_said (staging (station_at xs) class size hops))))

-- The stage holds one client frame.
unfoldable pub offer_client_after : List ℕ → ℕ → ℕ → ℕ → List ℕ
offer_client_after xs class size hops =
    after_of (offer_client_rows xs class size hops) xs (station_bytes (with_flow (station_at xs) (flow_after (station_at xs).flow (staging (station_at xs) class size hops))))

-- ---- rpr_offer_transit, rpr_offer_control

abbrev pub offer_rows : List ℕ → Line → Frame → List Fault
offer_rows xs l x = other_length_of station_length xs ∷ offer_faults (station_at xs) l x

abbrev pub offer_answer : List ℕ → Line → Frame → ℕ
offer_answer xs l x = answer_of (offer_rows xs l x) 0

-- the frame stands last in the queue
abbrev pub offer_after : List ℕ → Line → Frame → List ℕ
offer_after xs l x =
    after_of (offer_rows xs l x) xs (station_bytes (with_flow (station_at xs) (afterwards (station_at xs).flow (enter_of (station_at xs).settings (station_at xs).flow l x))))

-- Transit A goes to the primary queue, B and C to the secondary.
unfoldable pub offer_transit_answer : List ℕ → ℕ → ℕ → ℕ → ℕ → ℕ
offer_transit_answer xs class size hops eligible = offer_answer xs (queue_for (station_at xs).settings class) (given_frame class size hops eligible)

unfoldable pub offer_transit_after : List ℕ → ℕ → ℕ → ℕ → ℕ → List ℕ
offer_transit_after xs class size hops eligible = offer_after xs (queue_for (station_at xs).settings class) (given_frame class size hops eligible)

-- Control frames, given by size alone (class A, 1 hop), go to the control queue.
unfoldable pub offer_control_answer : List ℕ → ℕ → ℕ
offer_control_answer xs size = offer_answer xs Control (control_frame size)

unfoldable pub offer_control_after : List ℕ → ℕ → List ℕ
offer_control_after xs size = offer_after xs Control (control_frame size)

-- ---- rpr_select

abbrev pub select_rows : List ℕ → List Fault
select_rows xs = other_length_of station_length xs ∷ select_faults (station_at xs)

-- Where the chosen frame comes from, and the frame; all 0 for nothing.
unfoldable pub select_answer : List ℕ → ℕ
select_answer xs = answer_of (select_rows xs) (packed (selected_bytes (chosen_of (station_at xs)).origin (chosen_of (station_at xs)).frame))

-- The chosen frame leaves its queue, and is counted.
unfoldable pub select_after : List ℕ → List ℕ
select_after xs = after_of (select_rows xs) xs (station_bytes (chosen_of (station_at xs)).station)

-- ---- rpr_age

abbrev pub age_rows : List ℕ → List Fault
age_rows xs = other_length_of station_length xs ∷ age_faults (station_at xs)

unfoldable pub age_answer : List ℕ → ℕ
age_answer xs = answer_of (age_rows xs) 0

unfoldable pub age_after : List ℕ → List ℕ
age_after xs = after_of (age_rows xs) xs (station_bytes (aged_of (station_at xs)))

-- ---- rpr_read_frame

-- 2, also for the frame's shape, and for its ringlet bit against the lent station's own; then 1, 3, 13 and 11
abbrev pub read_frame_rows : List ℕ → List ℕ → List Fault
read_frame_rows xs frame = other_length_of station_length xs ∷ hear_faults (station_at xs) frame

unfoldable pub read_frame_answer : List ℕ → List ℕ → ℕ
read_frame_answer xs frame = answer_of (read_frame_rows xs frame) 0

-- A rate of 65,535 clears downstream congestion, others set it.
unfoldable pub read_frame_after : List ℕ → List ℕ → List ℕ
read_frame_after xs frame = after_of (read_frame_rows xs frame) xs (station_bytes (changed_of (station_at xs) (advert_in frame)))

-- ---- rpr_write_frame

-- Room to write in that isn't 12 bytes: 2.
abbrev pub write_frame_rows : List ℕ → List ℕ → List Fault
write_frame_rows xs room = other_length_of station_length xs ∷ other_length_of advert_length room ∷ tell_faults (station_at xs)

unfoldable pub write_frame_answer : List ℕ → List ℕ → ℕ
write_frame_answer xs room = answer_of (write_frame_rows xs room) 0

-- The room holds the frame that the station advertises.
unfoldable pub write_frame_after : List ℕ → List ℕ → List ℕ
write_frame_after xs room = after_of (write_frame_rows xs room) room (advert_bytes (told_of (station_at xs).fair (station_at xs).settings))

-- ---- rpr_show

abbrev pub show_rows : List ℕ → List ℕ → List Fault
show_rows xs room = other_length_of station_length xs ∷ other_length_of reading_length room ∷ show_faults (station_at xs)

unfoldable pub show_answer : List ℕ → List ℕ → ℕ
show_answer xs room = answer_of (show_rows xs room) 0

-- The room holds the reading.
unfoldable pub show_after : List ℕ → List ℕ → List ℕ
show_after xs room = after_of (show_rows xs room) room (reading_bytes (reading_of (station_at xs)))
