-- The third condition of acceptance, in its own words, and what a night's record says of a station.
-- Assumes nothing.
use Rattle.std.specs.Prelude.{Ok, Err, Some, None}
use Rattle.decide.specs.declared.refusal.Refusal.{Refusal}
use Rattle.decide.specs.Number.{number_in, refusal_of}
use Rattle.record.specs.Step.{placed}
use Rattle.std.specs.Prelude.{ℕ, suc, ◌+◌, ◌-◌, ◌≤◌, ◌<◌, Bool, true, false, List, [], ◌∷◌, ◌++◌, ◌⊎◌, ◌↔◌, ◌≡◌, length, take, drop}
use Rattle.std.specs.Borrow.{Bor}
use Rattle.wire.specs.Wire.{le, Bytes}
use Rattle.shaper.specs.declared.Limits.{Limits}
use Rattle.shaper.specs.declared.Event.{Event}
use Rattle.shaper.specs.declared.Event.TheVariants.{Waiting, Idle, Send}
use Rattle.shaper.specs.Kind.{kind_of, number_of}
use Rattle.shaper.specs.Credit.{Valid, Permitted, end_credit, accrued_of, sent_of}
use Rattle.summary.specs.declared.Summary.{Summary}
use Rattle.summary.specs.Answer.{Answer}
use Rattle.summary.specs.Answer.{Outcome}
use Rattle.summary.specs.Answer.{settle_of}
use Rattle.summary.specs.Summary.{summary_of}
use Rattle.record.specs.Record.{written, event_bytes, WellFormed}
use Rattle.record.specs.Items.{Item, run, item_of, run_bytes, written_items, unrolled, ItemOk, ItemsOk, Formed}
use Rattle.record.specs.Step.{header_of_of, item_at, item_within, step_at, step_within}
use Rattle.record.specs.Read.{Events, faulty, events}
use Rattle.reader.specs.declared.Place.{Place}
use Rattle.reader.specs.declared.Reader.{Reader}
use Rattle.reader.specs.Place.{next_at}
use Rattle.reader.specs.Walk.{new_of, next_of, moved_of, told, walk_of}
use Rattle.account.specs.Account.{summarize_in, summarize_of, Accounted}
use Rattle.account.specs.Pieces.{Tree, piece, both, Cuts, joined_along}
use Rattle.settings.specs.declared.Settings.{Settings}
use Rattle.settings.specs.Range.{SettingsOk}
use Rattle.settings.specs.Words.{settings_at}
use Rattle.credits.specs.declared.Which.{Which}
use Rattle.credits.specs.Which.{bucket_of, credit_of, limits_for}
use Rattle.station.specs.Calls.{fresh_of}
use Rattle.station.specs.History.{Call, after, record_of}
use Rattle.sheet.specs.Sheet.{sheet_length, summary_at}
use Rattle.layout.specs.Layout.{station_length}
use Rattle.rpr.specs.Calls.{summarize_answer, summarize_after, join_after, settle_answer, EndsAt}
use Rattle.rpr.specs.Station.{start_answer}
use Rattle.rpr.specs.Lent.{Lending, memory_through, NoNewStart, started_in, station_in}
use Rattle.rpr.specs.Told.{record_told}
use Rattle.rpr.specs.Pieces.{Rooms, room_of, AllCarried, CutsRooms}
use Rattle.paper.specs.Reasons.{header_refused, item_refused, event_refused, RecordRefused, OldRecordRefused}
use Rattle.paper.specs.Summaries.{SummaryRules}
use Rattle.paper.specs.Program.{Program}
use Rattle.paper.specs.Parting.{Parting}
use Rattle.paper.specs.Movers.{Movers}
use Rattle.paper.specs.Heartbeats.{Heartbeats}

-- What the summary s of a record says of its events es from a starting credit c.
pub record SummarySays (l : Limits) (es : List Event) (s : Summary) (c : ℕ) : Type 0 where
  -- it says exactly whether every send was permitted, event by event, and if so the credit at the end
  pub permitted : Permitted l c es → settle_of s c ≡ Ok (Some (end_credit l c es))
  pub not_permitted : (Permitted l c es → ⊥) → settle_of s c ≡ Ok None
  -- the bytes sent are then fewer than the bytes accrued plus hiLimit
  pub sent_below : Permitted l c es → s.sent < s.accrued + l.hi

-- A well-formed shaper record of at most 1,000,000 events under fixed settings, given by its bytes in either form:
pub record Account (xs : List ℕ) (l : Limits) (es : List Event) : Type 0 where
  -- its summary,
  pub summary : Summary
  pub summarized : summarize_of xs ≡ Ok summary
  -- which is that of its events, each joined to those before,
  pub is : summary ≡ summary_of l es
  -- whose counts are those over the record,
  pub events : summary.events ≡ length es
  pub accrued : summary.accrued ≡ accrued_of es
  pub sent : summary.sent ≡ sent_of es
  -- which is what joining the summaries of its pieces gives, cut between events, each in either form, and grouped in any way but in their order,
  pub joined : (pieces : Tree) → Cuts l es pieces → joined_along pieces ≡ Ok summary
  -- and which says, for each starting credit from 0 to hiLimit, what was.
  pub says : (c : ℕ) → c ≤ l.hi → SummarySays l es summary c

-- The same by the host's calls, rpr_summarize into a room of a summary's length and rpr_settle of that room:
pub record LentAccount (xs : List ℕ) (l : Limits) (es : List Event) (room : List ℕ) : Type 0 where
  pub carried : summarize_answer xs room ≡ 0
  pub summarized : summarize_of xs ≡ Ok (summary_at (summarize_after xs room))
  pub permitted : (c : ℕ) → c ≤ l.hi → Permitted l c es → EndsAt (settle_answer (summarize_after xs room) c) (end_credit l c es)
  pub not_permitted : (c : ℕ) → c ≤ l.hi → (Permitted l c es → ⊥) → settle_answer (summarize_after xs room) c ≡ 0

-- And of its pieces, cut between events, each in either form: each summarized by rpr_summarize into a room of its own, and these joined by rpr_join along any
-- tree of rooms.
pub record LentPieces (xs : List ℕ) (l : Limits) (es : List Event) (t : Rooms) : Type 0 where
  -- Each call is carried out,
  pub carried : AllCarried t
  -- and the last room is what rpr_summarize leaves of the whole record: so it says the same.
  pub whole : (room : List ℕ) → length room ≡ sheet_length → room_of t ≡ summarize_after xs room
  pub permitted : (c : ℕ) → c ≤ l.hi → Permitted l c es → EndsAt (settle_answer (room_of t) c) (end_credit l c es)
  pub not_permitted : (c : ℕ) → c ≤ l.hi → (Permitted l c es → ⊥) → settle_answer (room_of t) c ≡ 0

-- A cut inside a run leaves a shorter run or a single tick on each side: m of its ticks before the cut, and n behind it.
pub record CutInRun (l : Limits) (is : List Item) (e : Event) (m n : ℕ) (js : List Item) : Type 0 where
  -- both sides are items in range,
  pub before : ItemsOk true l (is ++ (item_of e m ∷ []))
  pub behind : ItemsOk true l (item_of e n ∷ js)
  -- and their records are a cut of the whole record's events,
  pub cut : Cuts l (unrolled (is ++ (run e (m + n) ∷ js))) (both (piece (written_items l (is ++ (item_of e m ∷ [])))) (piece (written_items l (item_of e n ∷ js))))
  -- which joined give the summary of the whole,
  pub joined :
      joined_along (both (piece (written_items l (is ++ (item_of e m ∷ [])))) (piece (written_items l (item_of e n ∷ js))))
      ≡ summarize_of (written_items l (is ++ (run e (m + n) ∷ js)))
  -- and so by the host's calls.
  pub rooms : (first second room : List ℕ) → length first ≡ sheet_length → length second ≡ sheet_length → length room ≡ sheet_length
      → join_after (summarize_after (written_items l (is ++ (item_of e m ∷ []))) first) (summarize_after (written_items l (item_of e n ∷ js)) second) room
      ≡ summarize_after (written_items l (is ++ (run e (m + n) ∷ js))) room

-- What stands in any bytes, as a record's.
pub record Finding (xs : List ℕ) : Type 0 where
  -- The header's settings, or the number of its fault.
  pub settings : header_refused xs 0 → header_of_of xs ≡ Ok (record { mtu = le 2 xs 4; lo = le 4 xs 6; hi = le 4 xs 10 })
  pub unreadable : (n : ℕ) → 0 < n → header_refused xs n → header_of_of xs ≡ Err (refusal_of n)
  -- At a place of a record whose header bears this mtu: past the last byte the end, else an event of 6 bytes, which is one, a run of 10, which is as many as its
  -- count, or the number of its fault.
  pub end : (mtu at : ℕ) → length xs ≤ at → step_at mtu xs at ≡ Ok None
  pub event : (mtu at : ℕ) → at < length xs → item_refused mtu (drop at xs) 0 → (le 2 (drop at xs) 2 ≡ 4 → ⊥)
      → step_at mtu xs at ≡ Ok (Some (placed (le 2 (drop at xs) 2) (le 2 (drop at xs) 4) 1 (at + 6)))
  pub run : (mtu at : ℕ) → at < length xs → item_refused mtu (drop at xs) 0 → le 2 (drop at xs) 2 ≡ 4
      → step_at mtu xs at ≡ Ok (Some (placed (le 2 (drop at xs) 4) (le 2 (drop at xs) 6) (le 2 (drop at xs) 8) (at + 10)))
  pub faulty : (mtu at n : ℕ) → at < length xs → 0 < n → item_refused mtu (drop at xs) n → step_at mtu xs at ≡ Err (refusal_of n)
  -- In the old form no run may stand.
  pub old_end : (mtu at : ℕ) → length xs ≤ at → item_at false mtu xs at ≡ Ok None
  pub old_event : (mtu at : ℕ) → at < length xs → event_refused mtu (drop at xs) 0
      → item_at false mtu xs at ≡ Ok (Some (placed (le 2 (drop at xs) 2) (le 2 (drop at xs) 4) 1 (at + 6)))
  pub old_faulty : (mtu at n : ℕ) → at < length xs → 0 < n → event_refused mtu (drop at xs) n → item_at false mtu xs at ≡ Err (refusal_of n)
  -- The same where so many more events may come: any byte after the last of them gives this number, and so does an item that stands for more than may come.
  pub none_left : (runs : Bool) (late : Refusal) (mtu at : ℕ) (r : Refusal) → item_at runs mtu xs at ≡ Err r → item_within runs late 0 mtu xs at ≡ Err late
  pub some_left : (runs : Bool) (late : Refusal) (left mtu at : ℕ) (r : Refusal) → item_at runs mtu xs at ≡ Err r → 0 < left → item_within runs late left mtu xs at ≡ Err r
  pub all_passed : (runs : Bool) (late : Refusal) (left mtu at : ℕ) → item_at runs mtu xs at ≡ Ok None → item_within runs late left mtu xs at ≡ Ok None
  pub few : (runs : Bool) (late : Refusal) (left mtu at kind number count next : ℕ) → item_at runs mtu xs at ≡ Ok (Some (placed kind number count next)) → count ≤ left
      → item_within runs late left mtu xs at ≡ Ok (Some (placed kind number count next))
  pub many : (runs : Bool) (late : Refusal) (left mtu at kind number count next : ℕ) → item_at runs mtu xs at ≡ Ok (Some (placed kind number count next)) → left < count
      → item_within runs late left mtu xs at ≡ Err late
  -- A reader looks at the header first, and any byte after the millionth event gives 9, and so does a run that passes it.
  pub read : (l : Limits) (p : Place) → header_of_of xs ≡ Ok l → next_at xs p ≡ step_within (refusal_of 9) (1000000 - p.done) l.mtu xs p.at
  pub not_read : (r : Refusal) (p : Place) → header_of_of xs ≡ Err r → next_at xs p ≡ Err r

-- A reader that stands behind these items of a record: behind its header and their bytes, and it knows how many events they stand for.
abbrev pub Behind : Limits → List Item → Reader → Type 0
Behind l is r = r.place ≡ record { at = length (written_items l is); done = length (unrolled is) }

-- A walk: what the reader tells, then the walk of the reader that moved on, over the same bytes.
pub record Walking : Type 0 where
  pub first : (s : Bor (List ℕ)) → new_of s ≡ record { bytes = s; place = record { at = 14; done = 0 } }
  -- what is told of an item: its kind, its number, its count, and the place behind it
  pub item : (kind number count next : ℕ) → placed kind number count next ≡ record { kind = kind; number = number; count = count; next = next }
  -- It moves behind an item, its events then being passed: 6 bytes on behind an event, 10 behind a run. At the end and at a fault it stays.
  pub moves : (r : Reader) (kind number count next : ℕ) → next_of r ≡ Ok (Some (placed kind number count next))
      → moved_of r ≡ record { bytes = r.bytes; place = record { at = next; done = r.place.done + count } }
  pub moves_event : (r : Reader) (kind number next : ℕ) → next_of r ≡ Ok (Some (placed kind number 1 next))
      → moved_of r ≡ record { bytes = r.bytes; place = record { at = r.place.at + 6; done = r.place.done + 1 } }
  pub moves_run : (r : Reader) (kind number count next : ℕ) → next_of r ≡ Ok (Some (placed kind number count next)) → 1 < count
      → moved_of r ≡ record { bytes = r.bytes; place = record { at = r.place.at + 10; done = r.place.done + count } }
  pub stays : (r : Reader) → (next_of r ≡ Ok None) ⊎ ((m : Refusal) × (next_of r ≡ Err m)) → moved_of r ≡ r
  -- Each item is told at its place, whatever stands behind it: kind 1 a tick that waits, 2 an idle one, 3 a send; an event once, a run as many times as its
  -- count.
  pub event_there : (r : Reader) (l : Limits) (is : List Item) (e : Event) (rest : List ℕ) → Formed true l is → Valid l e → length (unrolled is) < 1000000
      → r.bytes.now ≡ written_items l is ++ (event_bytes e ++ rest) → Behind l is r → next_of r ≡ Ok (Some (placed (kind_of e) (number_of e) 1 (r.place.at + 6)))
  pub run_there : (r : Reader) (l : Limits) (is : List Item) (e : Event) (count : ℕ) (rest : List ℕ) → Formed true l is → ItemOk true l (run e count)
      → length (unrolled is) + count ≤ 1000000 → r.bytes.now ≡ written_items l is ++ (run_bytes e count ++ rest) → Behind l is r
      → next_of r ≡ Ok (Some (placed (kind_of e) (number_of e) count (r.place.at + 10)))
  -- Behind the last item is the end; a fault of the header is found everywhere, one of an item at its place; any byte after the millionth event gives 9, and so
  -- does a run that passes it.
  pub at_end : (r : Reader) (l : Limits) (is : List Item) → Formed true l is → r.bytes.now ≡ written_items l is → Behind l is r → next_of r ≡ Ok None
  pub at_header : (r : Reader) (n : ℕ) → 0 < n → header_refused r.bytes.now n → next_of r ≡ Err (refusal_of n)
  pub at_item : (r : Reader) (l : Limits) (is : List Item) (rest : List ℕ) (n : ℕ) → Formed true l is → length (unrolled is) < 1000000 → 0 < length rest
      → r.bytes.now ≡ written_items l is ++ rest → Behind l is r → 0 < n → item_refused l.mtu rest n → next_of r ≡ Err (refusal_of n)
  pub at_million : (r : Reader) (l : Limits) (is : List Item) (rest : List ℕ) → Formed true l is → length (unrolled is) ≡ 1000000 → 0 < length rest
      → r.bytes.now ≡ written_items l is ++ rest → Behind l is r → next_of r ≡ Err (refusal_of 9)
  pub past_million : (r : Reader) (l : Limits) (is : List Item) (rest : List ℕ) → Formed true l is → 0 < length rest → item_refused l.mtu rest 0
      → le 2 rest 2 ≡ 4 → 1000000 < length (unrolled is) + le 2 rest 8 → r.bytes.now ≡ written_items l is ++ rest → Behind l is r → next_of r ≡ Err (refusal_of 9)
  pub place : (r : Reader) → next_of r ≡ next_at r.bytes.now r.place
  pub kinds : (x : ℕ) → (kind_of (Waiting x) ≡ 1) × (kind_of (Idle x) ≡ 2) × (kind_of (Send x) ≡ 3)
  pub counted : (x : ℕ) → (number_of (Waiting x) ≡ x) × (number_of (Idle x) ≡ x) × (number_of (Send x) ≡ x)
  pub no_turn : (r : Reader) → walk_of 0 r ≡ events []
  pub a_turn : (n : ℕ) (r : Reader) → walk_of (suc n) r ≡ told (next_of r) (walk_of n (moved_of r))
  -- An event of kind 1 is a tick that waits, of kind 2 an idle one, of kind 3 a send; it stands before those behind it, as many times as the count says.
  pub waiting : (number next : ℕ) (es : List Event) → told (Ok (Some (placed 1 number 1 next))) (events es) ≡ events (Waiting number ∷ es)
  pub idle : (number next : ℕ) (es : List Event) → told (Ok (Some (placed 2 number 1 next))) (events es) ≡ events (Idle number ∷ es)
  pub send : (number next : ℕ) (es : List Event) → told (Ok (Some (placed 3 number 1 next))) (events es) ≡ events (Send number ∷ es)
  pub none : (kind number next : ℕ) (rest : Events) → told (Ok (Some (placed kind number 0 next))) rest ≡ rest
  pub again : (kind number count next : ℕ) (rest : Events)
      → told (Ok (Some (placed kind number (suc count) next))) rest ≡ told (Ok (Some (placed kind number 1 next))) (told (Ok (Some (placed kind number count next))) rest)
  -- A fault behind it counts, the end and a fault end the walk.
  pub behind : (kind number next m : ℕ) → told (Ok (Some (placed kind number 1 next))) (faulty m) ≡ faulty m
  pub end : (rest : Events) → told (Ok None) rest ≡ events []
  pub fault : (r : Refusal) (rest : Events) → told (Err r) rest ≡ faulty (number_in r)

pub record Condition3 : Type 0 where
  -- What events and summaries are, by the rules of document 01.
  pub rules : SummaryRules
  pub program : Program
  -- Where two halls' records part is listed whole, and with both summaries: request A3.
  pub parting : Parting
  -- Every record that a writer writes has such an account, in either form,
  pub records : (l : Limits) (is : List Item) → Formed true l is → Account (written_items l is) l (unrolled is)
  -- and nothing else has a summary.
  pub no_others : (xs : List ℕ) (s : Summary) → Bytes xs → summarize_of xs ≡ Ok s → Accounted true xs s
  -- Any other has the number of its earliest fault: a refusal of that number, whatever its name, is answered where that fault is alone.
  pub faults : (xs : List ℕ) → Bytes xs → (n : ℕ) → 0 < n
      → ((f : Refusal) → number_in f ≡ n → summarize_of xs ≡ Err f → RecordRefused xs n) × (RecordRefused xs n → summarize_of xs ≡ Err (refusal_of n))
  -- Where the old form alone is read, a record that was written so has the same summary, and any other the number of its earliest fault: kind 4 is none there.
  pub old_records : (l : Limits) (es : List Event) → WellFormed l es → summarize_in false (written l es) ≡ Ok (summary_of l es)
  pub old_faults : (xs : List ℕ) → Bytes xs → (n : ℕ) → 0 < n
      → ((f : Refusal) → number_in f ≡ n → summarize_in false xs ≡ Err f → OldRecordRefused xs n) × (OldRecordRefused xs n → summarize_in false xs ≡ Err (refusal_of n))
  -- The cut may be inside a run.
  pub cut_in_run : (l : Limits) (is : List Item) (e : Event) (m n : ℕ) (js : List Item) → 1 ≤ m → 1 ≤ n → Formed true l (is ++ (run e (m + n) ∷ js))
      → CutInRun l is e m n js
  -- A reader walks the lent bytes and remembers its place: of a written record it tells each event, in a turn for each item and one for the end.
  pub walks : (s : Bor (List ℕ)) (l : Limits) (is : List Item) (n : ℕ) → s.now ≡ written_items l is → Formed true l is → length is ≤ n
      → walk_of (suc n) (new_of s) ≡ events (unrolled is)
  -- and of any other it ends with the number of the earliest fault.
  pub walks_faults : (s : Bor (List ℕ)) (n : ℕ) → Bytes s.now → 1000000 ≤ n → (m : ℕ) → 0 < m
      → (walk_of (suc n) (new_of s) ≡ faulty m) ↔ RecordRefused s.now m
  pub walking : Walking
  pub finding : (xs : List ℕ) → Finding xs
  -- It is so over lent bytes too.
  pub lent : (l : Limits) (is : List Item) → Formed true l is → (room : List ℕ) → length room ≡ sheet_length
      → LentAccount (written_items l is) l (unrolled is) room
  pub lent_pieces : (l : Limits) (is : List Item) → Formed true l is → (t : Rooms) → CutsRooms l (unrolled is) t
      → LentPieces (written_items l is) l (unrolled is) t
  -- An old record is moved into the new form and back, and either form says the same: request A8.
  pub movers : Movers
  -- A pattern, repeated, is told whether it fits: request A12.
  pub heartbeats : Heartbeats

-- ---- a night's record

-- The record of a shaper, of these events, and the credit that the station has:
pub record Night (s : Settings) (w : Which) (events : List Event) (credit : ℕ) : Type 0 where
  -- summarized from its bytes and settled from loLimit, it gives that credit,
  pub summary : Summary
  pub summarized : summarize_of (written (limits_for s w) events) ≡ Ok summary
  pub settled : settle_of summary (bucket_of s w).lo ≡ Ok (Some credit)
  -- and so do the host's calls on it: rpr_summarize is carried out, and rpr_settle says permitted, with that credit at the end.
  pub carried : (room : List ℕ) → length room ≡ sheet_length → summarize_answer (written (limits_for s w) events) room ≡ 0
  pub ends : (room : List ℕ) → length room ≡ sheet_length → EndsAt (settle_answer (summarize_after (written (limits_for s w) events) room) (bucket_of s w).lo) credit

-- It is so whatever calls were made since the start, for a record of at most 1,000,000 events: calls on a station by value,
abbrev pub NightAccounted : Type 0
NightAccounted =
    (s : Settings) → SettingsOk s → (calls : List Call) (w : Which) → length (record_of w (fresh_of s) calls) ≤ 1000000
    → Night s w (record_of w (fresh_of s) calls) (credit_of (after (fresh_of s) calls).flow.credits w)

-- and the host's calls on the station's memory, each lent what the one before left and none a new start, the record being told from these calls and the
-- numbers that the host got.
abbrev pub NightAccountedLent : Type 0
NightAccountedLent =
    (settings mem : List ℕ) → Bytes settings → start_answer settings (take station_length mem) ≡ 0
    → (calls : List Lending) → NoNewStart (started_in settings mem) calls → (w : Which) → length (record_told w (started_in settings mem) calls) ≤ 1000000
    → Night (settings_at settings 0) w (record_told w (started_in settings mem) calls)
    (credit_of (station_in (memory_through (started_in settings mem) calls)).flow.credits w)
