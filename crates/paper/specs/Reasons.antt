-- Why a call is refused, as facts: the number of the first reason that holds, in document 01's order 2, 1, 3, 11, 10, 9, 4, 5, 6, 7, 8, with 13 right after 3
-- and before 11 (document 02, A5), and 12 last (A8).
-- Assumes nothing.
use Rattle.std.specs.Prelude.{ℕ, ◌/◌, ◌%◌, ◌^◌, ◌+◌, ◌-◌, ◌*◌, ◌≤◌, ◌<◌, true, false, List, ◌++◌, ◌⊎◌, ◌≡◌, length}
use Rattle.wire.specs.Wire.{le, be}
use Rattle.shaper.specs.declared.Limits.{Limits}
use Rattle.shaper.specs.declared.Event.{Event}
use Rattle.shaper.specs.Limits.{LimitsOk}
use Rattle.summary.specs.Range.{InRange}
use Rattle.record.specs.Read.{limits_at}
use Rattle.record.specs.Record.{written, WellFormed}
use Rattle.record.specs.Items.{Item, written_items, unrolled, Formed}
use Rattle.roll.specs.Rolled.{rolled}
use Rattle.settings.specs.Range.{SettingsOk}
use Rattle.settings.specs.Words.{settings_length, settings_at}
use Rattle.queue.specs.declared.Frame.{Frame}
use Rattle.queue.specs.declared.Queue.{Queue}
use Rattle.queue.specs.Frame.{FrameOk}
use Rattle.queue.specs.Queue.{frames_of, sizes, space_of}
use Rattle.advert.specs.Frame.{advert_length}
use Rattle.credits.specs.Way.{way_of, mark_of}
use Rattle.flow.specs.declared.Line.{Line}
use Rattle.flow.specs.Frames.{Staged}
use Rattle.flow.specs.Parts.{queue_of, capacity_of, bounds_of}
use Rattle.ring.specs.declared.Way.{Way}
use Rattle.ring.specs.Choosing.{reaches_of}
use Rattle.station.specs.Range.{StationOk}
use Rattle.sheet.specs.Sheet.{sheet_length, summary_at}
use Rattle.layout.specs.Layout.{station_length, station_at}
use Rattle.paper.specs.Acts.{Permits, Passes, YesNo}

-- ---- the first reason that holds

-- The number n is this one, because the reason holds; or the reason doesn't hold, and n is what the others give.
pub data RefusedWhen (number : ℕ) (reason : Type 0) (others : ℕ → Type 0) (n : ℕ) : Type 0 where
  refused : reason → n ≡ number → RefusedWhen number reason others n
  passed : (reason → ⊥) → others n → RefusedWhen number reason others n

-- No reason is left: 0.
abbrev pub CarriedOut : ℕ → Type 0
CarriedOut n = n ≡ 0

-- ---- lent bytes

-- bytes are not whole settings, a whole station or summary, or the room for a summary, frame or reading: another length
abbrev pub OtherLength : ℕ → List ℕ → Type 0
OtherLength n xs = length xs ≡ n → ⊥

-- a lent station's state is outside its range
abbrev pub StationOut : List ℕ → Type 0
StationOut xs = StationOk (station_at xs) → ⊥

-- ---- the station's calls

-- rpr_start. What the station's bytes were is not asked.
abbrev pub start_refused : List ℕ → List ℕ → ℕ → Type 0
start_refused settings xs =
    RefusedWhen 2 (OtherLength settings_length settings)
    (RefusedWhen 2 (OtherLength station_length xs)
    (RefusedWhen 1 (SettingsOk (settings_at settings 0) → ⊥)
    CarriedOut))

-- rpr_tick
abbrev pub tick_refused : List ℕ → ℕ → ℕ → ℕ → ℕ → Type 0
tick_refused xs a b c =
    RefusedWhen 2 (OtherLength station_length xs)
    (RefusedWhen 1 (StationOut xs)
    (RefusedWhen 3 (YesNo a × YesNo b × YesNo c → ⊥)
    CarriedOut))

-- A frame's hops reach the number of stations or more.
abbrev pub BeyondRing : List ℕ → ℕ → Type 0
BeyondRing xs hops = (station_at xs).settings.site.stations ≤ hops

-- rpr_offer_transit: into a queue
abbrev pub offer_refused : List ℕ → Line → Frame → ℕ → Type 0
offer_refused xs l x =
    let st = station_at xs in
    RefusedWhen 2 (OtherLength station_length xs)
    (RefusedWhen 1 (StationOut xs)
    (RefusedWhen 3 (FrameOk (bounds_of st.settings) x → ⊥)
    (RefusedWhen 13 (BeyondRing xs x.hops)
    (RefusedWhen 4 (space_of (queue_of st.flow l) (capacity_of st.settings l) < x.size)
    CarriedOut))))

-- rpr_offer_control: class A, 1 hop, into the control queue. It never gets 13.
abbrev pub control_refused : List ℕ → ℕ → ℕ → Type 0
control_refused xs size =
    let st = station_at xs in
    RefusedWhen 2 (OtherLength station_length xs)
    (RefusedWhen 1 (StationOut xs)
    (RefusedWhen 3 (FrameOk (bounds_of st.settings) (record { size = size; hops = 1; class = 0; mark = 0 }) → ⊥)
    (RefusedWhen 4 (space_of st.flow.control st.settings.queues.control < size)
    CarriedOut)))

-- rpr_offer_client: into the stage. A client gives no mark; an eligible frame is one that goes in as excess.
abbrev pub client_refused : List ℕ → ℕ → ℕ → ℕ → ℕ → Type 0
client_refused xs class size hops =
    let st = station_at xs in
    let way = way_of st.settings st.flow.credits class in
    RefusedWhen 2 (OtherLength station_length xs)
    (RefusedWhen 1 (StationOut xs)
    (RefusedWhen 3 (FrameOk (bounds_of st.settings) (record { size = size; hops = hops; class = class; mark = 0 }) → ⊥)
    (RefusedWhen 13 (BeyondRing xs hops)
    (RefusedWhen 5 (Staged st.flow)
    (RefusedWhen 6 (Permits st way → ⊥)
    (RefusedWhen 7 ((mark_of way ≡ 1) × Passes st.fair size hops)
    CarriedOut))))))

-- rpr_select and rpr_age
abbrev pub station_refused : List ℕ → ℕ → Type 0
station_refused xs = RefusedWhen 2 (OtherLength station_length xs) (RefusedWhen 1 (StationOut xs) CarriedOut)

-- a whole fairness frame: 12 bytes, frame type 2, header kind 0
abbrev pub WholeFrame : List ℕ → Type 0
WholeFrame frame = (length frame ≡ advert_length) × ((be 1 frame 1 / 16 % 4 ≡ 2) × (be 2 frame 8 / 8192 ≡ 0))

-- rpr_read_frame. The ringlet bit is held to the lent station's own, whatever else is in that station; hopsToCongestion = 256 − ttl; the address by its high 16
-- and its low 32 bits.
abbrev pub read_refused : List ℕ → List ℕ → ℕ → Type 0
read_refused xs frame =
    let own = (station_at xs).settings in
    RefusedWhen 2 (OtherLength station_length xs)
    (RefusedWhen 2 (WholeFrame frame → ⊥)
    (RefusedWhen 2 (be 1 frame 1 / 128 ≡ own.ringlet)
    (RefusedWhen 1 (StationOut xs)
    (RefusedWhen 3 ((193 ≤ be 1 frame 0) × (be 1 frame 0 ≤ 255) → ⊥)
    (RefusedWhen 13 (BeyondRing xs (256 - be 1 frame 0))
    (RefusedWhen 11 ((be 6 frame 2 / 4294967296 ≡ own.address.high) × (be 6 frame 2 % 4294967296 ≡ own.address.low))
    CarriedOut))))))

-- rpr_write_frame and rpr_show: into a room of so many bytes
abbrev pub room_refused : ℕ → List ℕ → List ℕ → ℕ → Type 0
room_refused size xs room =
    RefusedWhen 2 (OtherLength station_length xs)
    (RefusedWhen 2 (OtherLength size room)
    (RefusedWhen 1 (StationOut xs)
    CarriedOut))

-- Space is capacity less bytes held, or 0 with 128 frames held.
pub record Spaces (capacity : ℕ) (q : Queue) : Type 0 where
  pub full : length (frames_of q) ≡ 128 → space_of q capacity ≡ 0
  pub left : length (frames_of q) < 128 → space_of q capacity + sizes (frames_of q) ≡ capacity

-- ---- the ring's calls

-- 2 to 63 stations (else 1); higher bits set give 3; own and target index are the ring's, and differ, else 3.
abbrev pub place_refused : ℕ → ℕ → ℕ → ℕ → (ℕ → Type 0) → ℕ → Type 0
place_refused stations own target links others =
    RefusedWhen 1 ((2 ≤ stations) × (stations ≤ 63) → ⊥)
    (RefusedWhen 3 (links < 2 ^ stations → ⊥)
    (RefusedWhen 3 ((own < stations) × (target < stations) × (own ≡ target → ⊥) → ⊥)
    others))

-- rpr_choose. Side: unspecified 0, left 1, right 2, default 3. Protection: unspecified 0, protected 1, unprotected 2. Ring: steering 0, wrapping 1.
abbrev pub choose_refused : ℕ → ℕ → ℕ → ℕ → ℕ → ℕ → ℕ → ℕ → Type 0
choose_refused stations own target links side protection ring =
    place_refused stations own target links
    (RefusedWhen 3 ((side ≤ 3) × (protection ≤ 2) × (ring ≤ 1) → ⊥)
    (RefusedWhen 8 ((protection ≡ 2 → ⊥) × ((way : Way) → reaches_of way stations own target links ≡ false))
    CarriedOut))

-- rpr_path. The home side: 1 left, 2 right.
abbrev pub path_refused : ℕ → ℕ → ℕ → ℕ → ℕ → ℕ → Type 0
path_refused stations own target links home =
    place_refused stations own target links (RefusedWhen 3 ((home ≡ 1) ⊎ (home ≡ 2) → ⊥) CarriedOut)

-- ---- records

-- a record's header: fewer bytes than 14, another length or kind; a setting outside its range
abbrev pub header_refused : List ℕ → ℕ → Type 0
header_refused xs =
    RefusedWhen 2 (length xs < 14)
    (RefusedWhen 2 (le 2 xs 0 ≡ 14 → ⊥)
    (RefusedWhen 2 (le 2 xs 2 ≡ 16 → ⊥)
    (RefusedWhen 1 (LimitsOk (limits_at xs) → ⊥)
    CarriedOut)))

-- What stands at the front of these bytes, whole: an event, of 6 bytes and kind 1, 2 or 3;
abbrev pub WholeEvent : List ℕ → Type 0
WholeEvent xs = (6 ≤ length xs) × (le 2 xs 0 ≡ 6) × ((1 ≤ le 2 xs 2) × (le 2 xs 2 ≤ 3))

-- or a run, of 10 bytes and kind 4.
abbrev pub WholeRun : List ℕ → Type 0
WholeRun xs = (10 ≤ length xs) × (le 2 xs 0 ≡ 10) × (le 2 xs 2 ≡ 4)

-- a send whose size is not 16 to mtu
abbrev pub WrongSize : ℕ → List ℕ → Type 0
WrongSize mtu xs = (le 2 xs 2 ≡ 3) × ((16 ≤ le 2 xs 4) × (le 2 xs 4 ≤ mtu) → ⊥)

-- An item of a record with this mtu, in either form: cut short, another length than its kind's, no known kind; a send's size; a tick kind other than 1 or 2; a
-- count below 2.
abbrev pub item_refused : ℕ → List ℕ → ℕ → Type 0
item_refused mtu xs =
    RefusedWhen 2 (WholeEvent xs ⊎ WholeRun xs → ⊥)
    (RefusedWhen 3 (WrongSize mtu xs)
    (RefusedWhen 2 ((le 2 xs 2 ≡ 4) × ((1 ≤ le 2 xs 4) × (le 2 xs 4 ≤ 2) → ⊥))
    (RefusedWhen 2 ((le 2 xs 2 ≡ 4) × (le 2 xs 8 < 2))
    CarriedOut)))

-- The same in the old form: an item of kind 4 is no event, whatever it holds.
abbrev pub event_refused : ℕ → List ℕ → ℕ → Type 0
event_refused mtu xs =
    RefusedWhen 2 (WholeEvent xs → ⊥)
    (RefusedWhen 3 (WrongSize mtu xs)
    CarriedOut)

-- Within a record the earliest fault counts instead, header first: it stands behind items without fault. A million events done, any byte gives 9; before that
-- the item's own fault counts, and a run without one that passes the million gives 9. Events are counted unrolled.
pub data RecordRefused (xs : List ℕ) (n : ℕ) : Type 0 where
  in_header : header_refused xs n → RecordRefused xs n
  after_million : (l : Limits) (is : List Item) (rest : List ℕ) → xs ≡ written_items l is ++ rest → Formed true l is → length (unrolled is) ≡ 1000000
      → 0 < length rest → n ≡ 9 → RecordRefused xs n
  at_item : (l : Limits) (is : List Item) (rest : List ℕ) → xs ≡ written_items l is ++ rest → Formed true l is → length (unrolled is) < 1000000
      → 0 < length rest → item_refused l.mtu rest n → RecordRefused xs n
  past_million : (l : Limits) (is : List Item) (rest : List ℕ) → xs ≡ written_items l is ++ rest → Formed true l is → length (unrolled is) < 1000000
      → 0 < length rest → item_refused l.mtu rest 0 → le 2 rest 2 ≡ 4 → 1000000 < length (unrolled is) + le 2 rest 8 → n ≡ 9 → RecordRefused xs n

-- The same where an old record is moved to the new form: it stands behind events without fault, and no run may.
pub data OldRecordRefused (xs : List ℕ) (n : ℕ) : Type 0 where
  in_header : header_refused xs n → OldRecordRefused xs n
  after_million : (l : Limits) (es : List Event) (rest : List ℕ) → xs ≡ written l es ++ rest → WellFormed l es → length es ≡ 1000000 → 0 < length rest
      → n ≡ 9 → OldRecordRefused xs n
  at_event : (l : Limits) (es : List Event) (rest : List ℕ) → xs ≡ written l es ++ rest → WellFormed l es → length es < 1000000 → 0 < length rest
      → event_refused l.mtu rest n → OldRecordRefused xs n

-- ---- the movers (document 02, A8)

-- rpr_roll: the earliest fault of a record in the old form; then 12, last, where what it is in the new form is longer than the room.
pub data RollRefused (xs room : List ℕ) (n : ℕ) : Type 0 where
  earliest : OldRecordRefused xs n → RollRefused xs room n
  no_room : (l : Limits) (es : List Event) → xs ≡ written l es → WellFormed l es → length room < length (written_items l (rolled es)) → n ≡ 12
      → RollRefused xs room n

-- rpr_unroll: the earliest fault of a record in either form; then 12, last, where its events one by one are longer than the room.
pub data UnrollRefused (xs room : List ℕ) (n : ℕ) : Type 0 where
  earliest : RecordRefused xs n → UnrollRefused xs room n
  no_room : (l : Limits) (is : List Item) → xs ≡ written_items l is → Formed true l is → length room < length (written l (unrolled is)) → n ≡ 12
      → UnrollRefused xs room n

-- ---- heartbeats (document 02, A12)

-- rpr_heartbeat: the pattern's earliest fault, header first, as a record's; but 256 events done any byte gives 3, and so does a run without a fault of its own that passes the
-- 256th. Then 9, where the repeats times the pattern's events exceed 1,000,000.
pub data HeartbeatRefused (xs : List ℕ) (repeats n : ℕ) : Type 0 where
  in_header : header_refused xs n → HeartbeatRefused xs repeats n
  after_256 : (l : Limits) (is : List Item) (rest : List ℕ) → xs ≡ written_items l is ++ rest → Formed true l is → length (unrolled is) ≡ 256
      → 0 < length rest → n ≡ 3 → HeartbeatRefused xs repeats n
  at_item : (l : Limits) (is : List Item) (rest : List ℕ) → xs ≡ written_items l is ++ rest → Formed true l is → length (unrolled is) < 256
      → 0 < length rest → item_refused l.mtu rest n → HeartbeatRefused xs repeats n
  past_256 : (l : Limits) (is : List Item) (rest : List ℕ) → xs ≡ written_items l is ++ rest → Formed true l is → length (unrolled is) < 256
      → 0 < length rest → item_refused l.mtu rest 0 → le 2 rest 2 ≡ 4 → 256 < length (unrolled is) + le 2 rest 8 → n ≡ 3 → HeartbeatRefused xs repeats n
  too_often : (l : Limits) (is : List Item) → xs ≡ written_items l is → Formed true l is → length (unrolled is) ≤ 256
      → 1000000 < repeats * length (unrolled is) → n ≡ 9 → HeartbeatRefused xs repeats n

-- ---- summaries

-- rpr_join
abbrev pub join_refused : List ℕ → List ℕ → List ℕ → ℕ → Type 0
join_refused first second room =
    let a = summary_at first in
    let b = summary_at second in
    RefusedWhen 2 (OtherLength sheet_length first)
    (RefusedWhen 2 (OtherLength sheet_length second)
    (RefusedWhen 2 (OtherLength sheet_length room)
    (RefusedWhen 3 (InRange a → ⊥)
    (RefusedWhen 3 (InRange b → ⊥)
    (RefusedWhen 10 (a.limits ≡ b.limits → ⊥)
    (RefusedWhen 9 (1000000 < a.events + b.events)
    CarriedOut))))))

-- rpr_settle
abbrev pub settle_refused : List ℕ → ℕ → ℕ → Type 0
settle_refused summary start =
    RefusedWhen 2 (OtherLength sheet_length summary)
    (RefusedWhen 3 (InRange (summary_at summary) → ⊥)
    (RefusedWhen 3 ((summary_at summary).limits.hi < start)
    CarriedOut))
