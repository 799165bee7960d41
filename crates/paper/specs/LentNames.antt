-- The small definitions of lent memory, of pieces, of summaries in bytes and of what a selection sees, said outright.
-- Assumes nothing.
use Rattle.decide.specs.declared.refusal.Refusal.{Refusal}
use Rattle.std.specs.Prelude.{Ok, Err}
use Rattle.decide.specs.Number.{number_in}
use Rattle.std.specs.Prelude.{ℕ, suc, ◌-◌, ◌*◌, ◌≤◌, true, List, [], ◌∷◌, ◌++◌, ◌⊎◌, ◌↔◌, ◌≡◌, pos, negsuc, ◌-ℤ◌, length, take, drop, replicate}
use Rattle.plain.specs.declared.Plain.{Plain}
use Rattle.summary.specs.Plain.{signed_from}
use Rattle.wire.specs.Wire.{digits, le, Bytes}
use Rattle.wire.specs.Signed.{unsigned_of}
use Rattle.shaper.specs.declared.Event.{Event}
use Rattle.shaper.specs.declared.Limits.{Limits}
use Rattle.summary.specs.declared.Summary.{Summary}
use Rattle.summary.specs.Answer.{Answer}
use Rattle.summary.specs.Answer.{join_of, and_then, answer_number}
use Rattle.record.specs.Items.{Item, written_items, unrolled, ItemsOk}
use Rattle.account.specs.Account.{summarize_of}
use Rattle.account.specs.Pieces as account
use Rattle.account.specs.Pieces.{Tree, Cuts, joined_along}
use Rattle.sheet.specs.Sheet.{sheet_length, sheet_of, handed}
use Rattle.settings.specs.declared.Settings.{Settings}
use Rattle.queue.specs.declared.Front.{Front}
use Rattle.queue.specs.Queue.{frames_of, sizes}
use Rattle.queue.specs.Front.{fronted}
use Rattle.credits.specs.declared.Which.{Which}
use Rattle.selection.specs.declared.Sight.{Sight}
use Rattle.selection.specs.Select as selection
use Rattle.selection.specs.Pick.{seen_in}
use Rattle.fair.specs.declared.Fair.{Fair}
use Rattle.fair.specs.Count.{count_of}
use Rattle.fair.specs.Methods as methods
use Rattle.fair.specs.Methods.{Changes, Steps}
use Rattle.fair.specs.Age.{adjusted_now, row_for}
use Rattle.station.specs.declared.Station.{Station}
use Rattle.station.specs.Pick.{pick_of, seen_as_of}
use Rattle.station.specs.Steady as rate
use Rattle.station.specs.Steady.{Rate}
use Rattle.layout.specs.Layout.{station_length, station_at}
use Rattle.rpr.specs.Calls.{summarize_answer, summarize_after, join_answer, join_after}
use Rattle.rpr.specs.Steady.{shown_word, counter_word, smoothed_word, EndsInterval, intervals_in, SteadyIn, GivesRate}
use Rattle.rpr.specs.Method.{local_word, congested_word, row_in, AlteredIn, AlteredWithinIn, RateTold, FreeTold}
use Rattle.rpr.specs.Pieces.{Rooms, piece, both, room_of, AllCarried, WholeRooms, tree_of, CutsRooms}
use Rattle.rpr.specs.Station.{start_answer, start_after, tick_answer, tick_after, age_answer, age_after}
use Rattle.rpr.specs.Station.{offer_client_answer, offer_client_after, offer_transit_answer, offer_transit_after, offer_control_answer, offer_control_after}
use Rattle.rpr.specs.Station.{select_answer, select_after, read_frame_answer, read_frame_after, write_frame_answer, show_answer, show_after}
use Rattle.rpr.specs.Lent as lent
use Rattle.rpr.specs.Lent.{LentCall, Lending, answer_to, left_by, lent_to, memory_after, memory_through, NewStart, NoNewStart, started_in, station_in}
use Rattle.rpr.specs.Told.{events_told, record_told}

-- ---- one piece of memory, of which each call is lent the first bytes

-- What a call answers where these bytes are lent for the station, and how it leaves them; for writing a frame and for showing they are lent for reading alone.
pub record CallNames (xs : List ℕ) : Type 0 where
  pub start : (settings : List ℕ) (bytes : Bytes settings)
      → let c = lent.start settings bytes in (answer_to c xs ≡ start_answer settings xs) × (left_by c xs ≡ start_after settings xs)
  pub tick : (a b c : ℕ) → (answer_to (lent.tick a b c) xs ≡ tick_answer xs a b c) × (left_by (lent.tick a b c) xs ≡ tick_after xs a b c)
  pub client : (class size hops : ℕ)
      → let c = lent.offer_client class size hops in (answer_to c xs ≡ offer_client_answer xs class size hops) × (left_by c xs ≡ offer_client_after xs class size hops)
  pub transit : (class size hops eligible : ℕ)
      → let c = lent.offer_transit class size hops eligible in
      (answer_to c xs ≡ offer_transit_answer xs class size hops eligible) × (left_by c xs ≡ offer_transit_after xs class size hops eligible)
  pub control : (size : ℕ) → (answer_to (lent.offer_control size) xs ≡ offer_control_answer xs size) × (left_by (lent.offer_control size) xs ≡ offer_control_after xs size)
  pub select : (answer_to lent.select xs ≡ select_answer xs) × (left_by lent.select xs ≡ select_after xs)
  pub age : (answer_to lent.age xs ≡ age_answer xs) × (left_by lent.age xs ≡ age_after xs)
  pub read_frame_lem : (frame : List ℕ) (bytes : Bytes frame)
      → let c = lent.read_frame frame bytes in (answer_to c xs ≡ read_frame_answer xs frame) × (left_by c xs ≡ read_frame_after xs frame)
  pub write_frame_lem : (room : List ℕ) → (answer_to (lent.write_frame room) xs ≡ write_frame_answer xs room) × (left_by (lent.write_frame room) xs ≡ xs)
  pub show : (room : List ℕ) → (answer_to (lent.show room) xs ≡ show_answer xs room) × (left_by (lent.show room) xs ≡ xs)

pub record MemoryNames (mem : List ℕ) : Type 0 where
  pub lends : (l : Lending) → lent_to l mem ≡ take l.count mem
  -- What is behind the lent bytes stays.
  pub after : (l : Lending) → memory_after l mem ≡ left_by l.call (lent_to l mem) ++ drop l.count mem
  -- Each is lent what the one before left.
  pub no_call : memory_through mem [] ≡ mem
  pub a_call : (l : Lending) (ls : List Lending) → memory_through mem (l ∷ ls) ≡ memory_through (memory_after l mem) ls
  -- A new start is a start that answers 0.
  pub new_start : (c : LentCall) (xs : List ℕ)
      → NewStart c xs ↔ ((settings : List ℕ) × ((bytes : Bytes settings) × (c ≡ lent.start settings bytes)) × (answer_to c xs ≡ 0))
  pub none_new : NoNewStart mem []
  pub not_new : (l : Lending) (ls : List Lending)
      → NoNewStart mem (l ∷ ls) ↔ ((NewStart l.call (lent_to l mem) → ⊥) × NoNewStart (memory_after l mem) ls)
  pub started : (settings : List ℕ) → started_in settings mem ≡ start_after settings (take station_length mem) ++ drop station_length mem
  pub station : station_in mem ≡ station_at (take station_length mem)
  -- the record of a shaper, told from the calls and the numbers that the host got
  pub no_event : (w : Which) → record_told w mem [] ≡ []
  pub told : (w : Which) (l : Lending) (ls : List Lending)
      → record_told w mem (l ∷ ls)
      ≡ events_told w l.call (answer_to l.call (lent_to l mem)) (station_at (lent_to l mem)) ++ record_told w (memory_after l mem) ls
  -- An interval ends by each rpr_age that is lent a station's bytes, and by nothing else:
  pub ends : (l : Lending) → EndsInterval l mem ↔ ((l.call ≡ lent.age) × (length (lent_to l mem) ≡ station_length))
  pub no_interval : intervals_in mem [] ≡ 0
  pub one_more : (l : Lending) (ls : List Lending) → EndsInterval l mem → intervals_in mem (l ∷ ls) ≡ suc (intervals_in (memory_after l mem) ls)
  pub no_more : (l : Lending) (ls : List Lending) → (EndsInterval l mem → ⊥) → intervals_in mem (l ∷ ls) ≡ intervals_in (memory_after l mem) ls
  -- a word that rpr_show leaves in its room; at each interval that of the counter stands at the rate; and at last that of the smoothed rate
  pub word : (room : List ℕ) (k : ℕ) → shown_word room mem k ≡ le 4 (show_after (take station_length mem) room) (4 * k)
  pub none_steady : (room : List ℕ) (k : Rate) (rate : ℕ) → SteadyIn room k rate mem []
  pub steady : (room : List ℕ) (k : Rate) (rate : ℕ) (l : Lending) (ls : List Lending)
      → SteadyIn room k rate mem (l ∷ ls) ↔ ((EndsInterval l mem → shown_word room mem (counter_word k) ≡ rate) × SteadyIn room k rate (memory_after l mem) ls)
  pub gives : (room : List ℕ) (k : Rate) (rate : ℕ)
      → GivesRate room mem k rate ↔ ((show_answer (take station_length mem) room ≡ 0) × (shown_word room mem (smoothed_word k) ≡ rate))

-- 13 to 16 are the counters' words, and 17 to 20 those of the smoothed rates: addRate, fwRate, addRateCongested, fwRateCongested
pub record RateWords : Type 0 where
  pub counters : (counter_word rate.add ≡ 13) × (counter_word rate.fw ≡ 14) × (counter_word rate.add_congested ≡ 15) × (counter_word rate.fw_congested ≡ 16)
  pub smoothed : (smoothed_word rate.add ≡ 17) × (smoothed_word rate.fw ≡ 18) × (smoothed_word rate.add_congested ≡ 19) × (smoothed_word rate.fw_congested ≡ 20)

-- What a host sees of the conservative method: words 21 and 25 are localFairRate and local congestion.
pub record MethodNames (mem : List ℕ) : Type 0 where
  pub words : (local_word ≡ 21) × (congested_word ≡ 25)
  -- the row that an rpr_age takes: by the state, the settings and the bytes of the frames in the secondary queue, as the rows of an interval have it
  pub row : row_in mem ≡ row_for (station_in mem).fair (station_in mem).settings (sizes (frames_of (station_in mem).flow.secondary))
  -- the three that a row is about, and that it leaves
  pub three : (f : Fair) → adjusted_now f ≡ record { congested = f.decided.congested; local = f.decided.local; since = f.since }
  -- Entry counts as a change, so do leaving and each step; a step is no entry and no leaving.
  pub changes : Changes methods.enters × Changes methods.lowers × Changes methods.leaves × Changes methods.raises
  pub no_change : (Changes methods.rests → ⊥) × (Changes methods.waits → ⊥)
  pub steps : Steps methods.lowers × Steps methods.raises
  pub no_step : (Steps methods.enters → ⊥) × (Steps methods.rests → ⊥) × (Steps methods.leaves → ⊥) × (Steps methods.waits → ⊥)
  -- what rpr_show tells before and after differs
  pub altered : (room : List ℕ) (l : Lending)
      → AlteredIn room l mem
      ↔ ((shown_word room mem 25 ≡ shown_word room (memory_after l mem) 25 → ⊥) ⊎ (shown_word room mem 21 ≡ shown_word room (memory_after l mem) 21 → ⊥))
  pub within : (room : List ℕ) (l : Lending)
      → AlteredWithinIn room l mem
      ↔ ((shown_word room mem 25 ≡ 1) × (shown_word room (memory_after l mem) 25 ≡ 1) × (shown_word room mem 21 ≡ shown_word room (memory_after l mem) 21 → ⊥))
  pub rate : (room : List ℕ) (s : Settings)
      → RateTold room s mem ↔ ((show_answer (take station_length mem) room ≡ 0) × (s.site.method ≡ 1 → shown_word room mem 21 ≤ s.fairness.unreserved))
  pub free : (room : List ℕ) (s : Settings) → FreeTold room s mem ↔ (shown_word room mem 25 ≡ 0 → shown_word room mem 21 ≡ s.fairness.unreserved)

-- ---- pieces, joined along a tree

pub record PieceNames : Type 0 where
  pub piece_joined : (bytes : List ℕ) → joined_along (account.piece bytes) ≡ summarize_of bytes
  pub both_joined : (t u : Tree) → joined_along (account.both t u) ≡ and_then (joined_along t) (λ a. and_then (joined_along u) (λ b. join_of a b))
  pub piece_room : (bytes room : List ℕ) → room_of (piece bytes room) ≡ summarize_after bytes room
  pub both_room : (t u : Rooms) (room : List ℕ) → room_of (both t u room) ≡ join_after (room_of t) (room_of u) room
  pub piece_carried : (bytes room : List ℕ) → AllCarried (piece bytes room) ↔ (summarize_answer bytes room ≡ 0)
  pub both_carried : (t u : Rooms) (room : List ℕ) → AllCarried (both t u room) ↔ (AllCarried t × AllCarried u × (join_answer (room_of t) (room_of u) room ≡ 0))
  pub cut : (l : Limits) (es : List Event) (t : Rooms) → CutsRooms l es t ↔ (Cuts l es (tree_of t) × WholeRooms t)
  -- A piece of a cut record is that record's header followed by the piece's items, in either form; what two groups are a cut of stands one behind the other.
  pub piece_cut : (l : Limits) (es : List Event) (bytes : List ℕ)
      → Cuts l es (account.piece bytes) ↔ ((is : List Item) × ItemsOk true l is × (bytes ≡ written_items l is) × (es ≡ unrolled is))
  pub both_cut : (l : Limits) (es : List Event) (t u : Tree)
      → Cuts l es (account.both t u) ↔ ((first : List Event) × ((second : List Event) × Cuts l first t × Cuts l second u × (es ≡ first ++ second)))
  pub piece_tree : (bytes room : List ℕ) → tree_of (piece bytes room) ≡ account.piece bytes
  pub both_tree : (t u : Rooms) (room : List ℕ) → tree_of (both t u room) ≡ account.both (tree_of t) (tree_of u)
  pub piece_whole : (bytes room : List ℕ) → WholeRooms (piece bytes room) ↔ (length room ≡ sheet_length)
  pub both_whole : (t u : Rooms) (room : List ℕ) → WholeRooms (both t u room) ↔ (WholeRooms t × WholeRooms u × (length room ≡ sheet_length))

-- ---- a summary in bytes

pub record SheetNames : Type 0 where
  -- words little-endian: mtu, loLimit, hiLimit and events 4 bytes each; accrued, sent, ceiling (two's complement) and need 8 each
  pub sheet : (s : Summary)
      → sheet_of s
      ≡ digits 4 s.limits.mtu
      ++ (digits 4 s.limits.lo
      ++ (digits 4 s.limits.hi
      ++ (digits 4 s.events ++ (digits 8 s.accrued ++ (digits 8 s.sent ++ (digits 8 (unsigned_of s.ceiling) ++ (digits 8 s.need ++ [])))))))
  pub not_negative : (n : ℕ) → unsigned_of (pos n) ≡ n
  pub negative : (m : ℕ) → unsigned_of (negsuc m) ≡ 18446744073709551615 - m
  -- the summary whose ceiling is so far below hiLimit
  pub signed : (p : Plain)
      → signed_from p
      ≡ record { limits = p.limits; events = p.events; accrued = p.accrued; sent = p.sent; ceiling = pos p.limits.hi -ℤ pos p.depth; need = p.need }
  -- A summary is handed over to the room; a refusal leaves the room, and is its number.
  pub summed : (room : List ℕ) (s : Summary) → (handed room (Ok s) ≡ sheet_of s) × (answer_number (Ok s) ≡ 0)
  pub refused : (room : List ℕ) (r : Refusal) → (handed room (Err r) ≡ room) × (answer_number (Err r) ≡ number_in r)

-- ---- what a selection sees

pub record SightNames : Type 0 where
  -- What goes next in a station, in range or not: what the table selects, counted, and what it leaves but for the queue that the frame left.
  pub picked : (st : Station)
      → let r = selection.select_of st.settings st.flow in
      pick_of st ≡ record {
        origin = r.origin;
        frame = r.frame;
        credits = r.flow.credits;
        stage = r.flow.stage;
        fair = count_of st.settings st.fair r.origin r.frame.mark r.frame.hops r.frame.size;
      }
  pub seen_as : (s : Settings) (v : Sight) (f : Fair) → seen_as_of s v f ≡ record { settings = s; flow = seen_in v; fair = f }
  pub seen_in_lem : (v : Sight)
      → seen_in v
      ≡ record { credits = v.credits; control = fronted v.control; primary = fronted v.primary; secondary = fronted v.secondary; stage = v.stage }
  -- a queue of which only the front is known: its first frame, how many it holds and their bytes
  pub front : (f : Front) → fronted f ≡ record { slots = f.word ∷ replicate 127 0; head = 0; count = f.count; held = f.held }

pub record LentNames : Type 0 where
  pub call : (xs : List ℕ) → CallNames xs
  pub memory : (mem : List ℕ) → MemoryNames mem
  pub rates : RateWords
  pub methods : (mem : List ℕ) → MethodNames mem
  pub pieces : PieceNames
  pub sheets : SheetNames
  pub sights : SightNames
