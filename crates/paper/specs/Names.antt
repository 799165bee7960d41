-- The small definitions that the conditions speak through, said outright: a statement that names one of these says no more than stands here.
-- Assumes nothing.
use Rattle.std.specs.Prelude.{ℕ, suc, ◌+◌, ◌*◌, ◌-◌, ◌/◌, ◌%◌, ◌^◌, ◌≤◌, ◌<◌, min, Bool, true, false, List, [], ◌∷◌, ◌++◌, ◌↔◌, ◌≡◌, get_or, set, length, take, drop, Result, Ok, Err}
use Rattle.decide.specs.declared.refusal.Refusal.{Refusal}
use Rattle.decide.specs.Number.{number_in, refusal_of}
use Rattle.wire.specs.Wire.{le, be, digits, put, Bytes}
use Rattle.wire.specs.Words.{words_at}
use Rattle.rpr.specs.Reading.{words_from, frames_held}
use Rattle.rpr.specs.Told.{answer_byte}
use Rattle.rpr.specs.Pairs.{links_told}
use Rattle.shaper.specs.declared.Event.TheVariants.{Waiting, Idle, Send}
use Rattle.shaper.specs.Credit as shaper
use Rattle.shaper.specs.Short.{shortfall}
use Rattle.settings.specs.declared.Settings.{Settings}
use Rattle.settings.specs.Range.{usual_of}
use Rattle.queue.specs.declared.Frame.{Frame}
use Rattle.queue.specs.declared.Queue.{Queue}
use Rattle.queue.specs.Frame.{frame_of}
use Rattle.queue.specs.Queue.{frames_from, frames_of, first_frame, taken, space_of, sizes}
use Rattle.advert.specs.declared.Advert.{Advert}
use Rattle.credits.specs.declared.Credits.{Credits}
use Rattle.credits.specs.declared.Way as entry
use Rattle.credits.specs.declared.Which.{Which}
use Rattle.credits.specs.declared.Which.TheVariants.{M, A, B, C, D}
use Rattle.credits.specs.Which.{bucket_of, credit_of, limits_for, member, sends, fed}
use Rattle.credits.specs.Way.{mark_of}
use Rattle.flow.specs.declared.Flow.{Flow}
use Rattle.flow.specs.Frames.{Holding, Staged, stage_frames}
use Rattle.flow.specs.declared.Line.{Line}
use Rattle.flow.specs.declared.Line.TheVariants.{Control, Primary, Secondary}
use Rattle.flow.specs.Parts.{queue_of, capacity_of, bounds_of, with_credits, with_stage, with_queue}
use Rattle.flow.specs.Events.{way_back}
use Rattle.flow.specs.Offer.{client_frame}
use Rattle.selection.specs.declared.Selected.{Selected}
use Rattle.selection.specs.Frames.{gone}
use Rattle.selection.specs.Select.{origin_of, leaves, leaves_charged, leaves_stage}
use Rattle.rates.specs.Rates.{smoothed_of, shown_of, aged_of, ramped_of, reduced_of, allowance_of, own_rate_of, share_of}
use Rattle.rates.specs.Steady.{steady_of, gap_of}
use Rattle.heard.specs.Range.{hops_of}
use Rattle.fair.specs.declared.Fair.{Fair}
use Rattle.fair.specs.Four.{Four, Stored}
use Rattle.fair.specs.Age.{shown_four}
use Rattle.fair.specs.Advertise.{heard_of}
use Rattle.fair.specs.Count.{with_counters}
use Rattle.answer.specs.Bytes.{bit_of}
use Rattle.ring.specs.declared.Way.{Way}
use Rattle.ring.specs.declared.Way.TheVariants.{Left, Right}
use Rattle.ring.specs.Links.{other_of, next_of, link_of, station_after}
use Rattle.ring.specs.Choosing.{code_of, chosen_as, no_choice, tie_of, Placed}
use Rattle.ring.specs.Pairs.{links_of}
use Rattle.wrap.specs.Walking.{Course, ended, across, side_of, journey, no_path}
use Rattle.station.specs.declared.Station.{Station}
use Rattle.station.specs.Answers.{with_flow, with_fair, Done, refused_of, done_of, not_chosen_of, origin_said, frame_said, rest_after}
use Rattle.station.specs.Offers.{turned_of, mark_told, station_left, offer_client_of, offer_transit_of, offer_control_of}
use Rattle.station.specs.Hear.{changed_of, hear_of, not_told_of, advert_said, tell_of}
use Rattle.station.specs.Hops.{HopsBelow}
use Rattle.station.specs.Show.{held_in, held_on, reading_of, blank_of, not_shown_of, reading_said, show_of}
use Rattle.shaper.specs.declared.Refused.{Refused}
use Rattle.shaper.specs.declared.Shaper.{Shaper}
use Rattle.shaper.specs.Refused.{refused, number_said, detail_said, afterwards}
use Rattle.shaper.specs.Shaper.{Charged}
use Rattle.station.specs.declared.Reading.{Reading}
use Rattle.station.specs.declared.Client.{Client}
use Rattle.station.specs.declared.Selected as station
use Rattle.station.specs.Calls.{tick_of, select_of, age_of}
use Rattle.station.specs.History.{Call, tick, offer_client, offer_transit, offer_control, select, age, hear, tell, show}
use Rattle.station.specs.History.{of_done, of_client, of_selected, step, trace, after, record_of}
use Rattle.entry.specs.Brief.{brief_of, charge_brief_of, marked_of, chosen_of}

-- ---- refusals

pub record RefusalNames : Type 0 where
  -- Each number of document 01's table has its refusal, and a host is told the number of a refusal, of these and of any other.
  pub each : (refusal_of 1 ≡ Refusal.Setting) × (refusal_of 2 ≡ Refusal.NotWhole) × (refusal_of 3 ≡ Refusal.OutOfRange) × (refusal_of 4 ≡ Refusal.NoSpace)
      × (refusal_of 5 ≡ Refusal.StageHolds) × (refusal_of 6 ≡ Refusal.NoCredit) × (refusal_of 7 ≡ Refusal.OverRate) × (refusal_of 8 ≡ Refusal.NoWay)
      × (refusal_of 9 ≡ Refusal.TooMany) × (refusal_of 10 ≡ Refusal.Unlike) × (refusal_of 11 ≡ Refusal.OwnAddress) × (refusal_of 12 ≡ Refusal.ShortRoom)
      × (refusal_of 13 ≡ Refusal.BeyondRing)
  pub number : (n : ℕ) → number_in (refusal_of n) ≡ n
  -- What is said beside it.
  pub beside : (n detail : ℕ) → refused n detail ≡ record { refusal = refusal_of n; detail = detail }
  -- A call of the station that is not carried out answers that alone.
  pub station : (n detail : ℕ) → (refused_of n ≡ Err (refused n 0)) × (turned_of n detail ≡ Err (refused n detail)) × (not_chosen_of n ≡ Err (refused n 0))
      × (not_told_of n ≡ Err (refused n 0)) × (not_shown_of n ≡ Err (refused n 0))

-- ---- shapers and queues

pub record ShaperNames : Type 0 where
  -- Five: M (control), A, B, C, D (downstream).
  pub settings : (s : Settings)
      → (bucket_of s M ≡ s.shapers.m) × (bucket_of s A ≡ s.shapers.a) × (bucket_of s B ≡ s.shapers.b) × (bucket_of s C ≡ s.shapers.c)
      × (bucket_of s D ≡ s.shapers.d)
  pub credits : (c : Credits)
      → (credit_of c M ≡ c.m) × (credit_of c A ≡ c.a) × (credit_of c B ≡ c.b) × (credit_of c C ≡ c.c) × (credit_of c D ≡ c.d)
  pub limits : (s : Settings) (w : Which) → limits_for s w ≡ record { mtu = s.mtu; lo = (bucket_of s w).lo; hi = (bucket_of s w).hi }
  -- A send is permitted only while credit > loLimit.
  pub permitted : (credit lo : ℕ) → (shaper.permits credit lo ≡ true) ↔ (lo < credit)
  -- The bytes missing: the least amount whose addition would make the credit exceed loLimit.
  pub missing : (credit lo x : ℕ) → (shortfall credit lo ≤ x) ↔ (lo < credit + x)
  -- a tick's event
  pub ticks : (x : ℕ) → (shaper.tick_of true x ≡ Waiting x) × (shaper.tick_of false x ≡ Idle x)
  -- who is among those that are charged,
  pub nobody : (w : Which) → member w [] ≡ false
  pub first : (w : Which) (ws : List Which) → member w (w ∷ ws) ≡ true
  pub further : (v w : Which) (ws : List Which) → (v ≡ w → ⊥) → member v (w ∷ ws) ≡ member v ws
  -- and so has one send of the size
  pub one_send : (ws : List Which) (size : ℕ) (w : Which) → member w ws ≡ true → sends ws size w ≡ Send size ∷ []
  pub no_send : (ws : List Which) (size : ℕ) (w : Which) → member w ws ≡ false → sends ws size w ≡ []

pub record QueueNames : Type 0 where
  pub queues : (f : Flow) → (queue_of f Control ≡ f.control) × (queue_of f Primary ≡ f.primary) × (queue_of f Secondary ≡ f.secondary)
  pub capacities : (s : Settings)
      → (capacity_of s Control ≡ s.queues.control) × (capacity_of s Primary ≡ s.queues.primary) × (capacity_of s Secondary ≡ s.queues.secondary)
  -- bytes held: the sizes' sum
  pub sums : (sizes [] ≡ 0) × ((x : Frame) (xs : List Frame) → sizes (x ∷ xs) ≡ x.size + sizes xs)
  -- its frames: as many as it counts, from its head on, round the ring of slots
  pub frames : (q : Queue) → frames_of q ≡ frames_from q.slots q.head q.count
  pub frames_none : (slots : List ℕ) (head : ℕ) → frames_from slots head 0 ≡ []
  pub frames_more : (slots : List ℕ) (head n : ℕ) → frames_from slots head (suc n) ≡ frame_of (get_or slots (head % 128) 0) ∷ frames_from slots (suc head) n
  -- the frame of a slot's word, and no frame
  pub slot : (w : ℕ) → frame_of w ≡ record { size = w % 16384; hops = w / 16384 % 64; class = w / 1048576 % 4; mark = w / 4194304 }
  pub no_frame : frame_of 0 ≡ record { size = 0; hops = 0; class = 0; mark = 0 }
  -- what the frames of a station are held to
  pub bounds : (s : Settings) → bounds_of s ≡ record { mtu = s.mtu; stations = s.site.stations }
  -- hopsToCongestion = 256 − ttl; and of each frame of a list the hops stay below the number of stations
  pub hops_told : (ttl : ℕ) → hops_of ttl ≡ 256 - ttl
  pub none_below : (stations : ℕ) → HopsBelow stations []
  pub more_below : (stations : ℕ) (x : Frame) (xs : List Frame) → HopsBelow stations (x ∷ xs) ↔ ((x.hops < stations) × HopsBelow stations xs)
  -- the first of a queue's frames
  pub first : (q : Queue) (x : Frame) (xs : List Frame) → frames_of q ≡ x ∷ xs → first_frame q ≡ x
  -- a queue, and the stage, that holds a frame
  pub holding : (q : Queue) → Holding q ↔ (frames_of q ≡ [] → ⊥)
  pub in_stage : (f : Flow) → Staged f ↔ (f.stage ≡ 0 → ⊥)
  pub no_stage : (f : Flow) → f.stage ≡ 0 → stage_frames f ≡ []
  pub on_stage : (f : Flow) → (f.stage ≡ 0 → ⊥) → stage_frames f ≡ frame_of f.stage ∷ []
  -- the frame that was selected from here, or from elsewhere
  pub from_here : (r : Selected) (origin : ℕ) → r.origin ≡ origin → gone r origin ≡ r.frame ∷ []
  pub from_elsewhere : (r : Selected) (origin : ℕ) → (r.origin ≡ origin → ⊥) → gone r origin ≡ []
  -- a client's frame as it lies in the stage
  pub staged : (way : entry.Way) (class size hops : ℕ)
      → client_frame way class size hops ≡ record { size = size; hops = hops; class = class; mark = mark_of way }

-- ---- selection: how a frame goes, in range or not

pub record GoingNames : Type 0 where
  -- Space is capacity less bytes held, or 0 with 128 frames held.
  pub space : (q : Queue) (capacity : ℕ) → q.count < 128 → space_of q capacity ≡ capacity - q.held
  pub full : (q : Queue) (capacity : ℕ) → 128 ≤ q.count → space_of q capacity ≡ 0
  -- the frame in the first slot; without it the slot is empty again, and the next one is the first
  pub first_slot : (q : Queue) → first_frame q ≡ frame_of (get_or q.slots (q.head % 128) 0)
  pub without_first_lem : (q : Queue)
      → taken q
      ≡ record { slots = set q.slots (q.head % 128) 0; head = (q.head + 1) % 128; count = q.count - 1; held = q.held - (first_frame q).size }
  -- The first frame of a queue leaves it, with nothing charged, or with a shaper charged; or the frame in the stage does.
  pub leaves_queue : (f : Flow) (l : Line)
      → leaves f l ≡ record { origin = origin_of l; frame = first_frame (queue_of f l); flow = with_queue f l (taken (queue_of f l)) }
  pub origins : (origin_of Control ≡ 1) × (origin_of Primary ≡ 2) × (origin_of Secondary ≡ 3)
  pub charged : (s : Settings) (f : Flow) (l : Line) (w : Which)
      → leaves_charged s f l w ≡ leaves (with_credits f (fed s f.credits (sends (w ∷ []) (first_frame (queue_of f l)).size))) l
  pub stage : (f : Flow) → leaves_stage f ≡ record { origin = 4; frame = frame_of f.stage; flow = with_stage f 0 }
  -- a flow with another queue
  pub control : (f : Flow) (q : Queue)
      → with_queue f Control q ≡ record { credits = f.credits; control = q; primary = f.primary; secondary = f.secondary; stage = f.stage }
  pub primary : (f : Flow) (q : Queue)
      → with_queue f Primary q ≡ record { credits = f.credits; control = f.control; primary = q; secondary = f.secondary; stage = f.stage }
  pub secondary : (f : Flow) (q : Queue)
      → with_queue f Secondary q ≡ record { credits = f.credits; control = f.control; primary = f.primary; secondary = q; stage = f.stage }
  -- how a client's frame went in, by its class and mark
  pub as_a : (mark : ℕ) → way_back 0 mark ≡ entry.Way.ClassA
  pub as_b : (class : ℕ) → (class ≡ 0 → ⊥) → way_back class 0 ≡ entry.Way.ClassB
  pub as_excess : (class mark : ℕ) → (class ≡ 0 → ⊥) → (mark ≡ 0 → ⊥) → way_back class mark ≡ entry.Way.Excess

-- ---- a reading

pub record ReadingNames : Type 0 where
  -- a queue: frames, bytes; stage: frames (0 or 1), bytes
  pub queue : (q : Queue) → held_in q ≡ record { frames = q.count; bytes = q.held }
  pub no_stage : held_on 0 ≡ record { frames = 0; bytes = 0 }
  pub stage : (w : ℕ) → (w ≡ 0 → ⊥) → held_on w ≡ record { frames = 1; bytes = (frame_of w).size }
  pub reading : (st : Station)
      → reading_of st
      ≡ record {
        credits = st.flow.credits;
        control = held_in st.flow.control;
        primary = held_in st.flow.primary;
        secondary = held_in st.flow.secondary;
        stage = held_on st.flow.stage;
        counters = st.fair.counters;
        smoothed = shown_four st.settings.fairness.lp st.fair.smoothed;
        decided = st.fair.decided;
        received = st.fair.received;
      }
  -- of each smoothed rate the reading has what is shown
  pub shown : (coef : ℕ) (s : Stored) → shown_four coef s ≡ record { add = s.add / coef; fw = s.fw / coef; addc = s.addc / coef; fwc = s.fwc / coef }
  -- each number 0
  pub blank : blank_of ≡ record {
    credits = record { m = 0; a = 0; b = 0; c = 0; d = 0 };
    control = record { frames = 0; bytes = 0 };
    primary = record { frames = 0; bytes = 0 };
    secondary = record { frames = 0; bytes = 0 };
    stage = record { frames = 0; bytes = 0 };
    counters = record { add = 0; fw = 0; addc = 0; fwc = 0 };
    smoothed = record { add = 0; fw = 0; addc = 0; fwc = 0 };
    decided = record { local = 0; allowed = 0; allowedc = 0; own = 0; congested = 0 };
    received = record { downstream = 0; ttl = 0; high = 0; low = 0; rate = 0 };
  }

-- ---- rates

-- The numbers of documents 01 and 02, parts of a whole rounded down.
pub record RateNames : Type 0 where
  -- At an interval s becomes s − floor(s / lpCoef) + rate,
  pub smoothed : (coef s rate : ℕ) → smoothed_of coef s rate ≡ s - s / coef + rate
  -- and the rate shown is floor(s / lpCoef).
  pub shown : (coef s : ℕ) → shown_of coef s ≡ s / coef
  -- what is stored after no interval with a steady rate, and after one more
  pub steady_none : (coef rate s : ℕ) → steady_of coef rate 0 s ≡ s
  pub steady_next : (coef rate n s : ℕ) → steady_of coef rate (suc n) s ≡ steady_of coef rate n (smoothed_of coef s rate)
  -- two rates are less than n apart, whichever is the larger
  pub gap : (a b n : ℕ) → (gap_of a b < n) ↔ ((a < b + n) × (b < a + n))
  -- Each counter becomes floor(rate × (ageCoef−1) / ageCoef).
  pub aged : (rate coef : ℕ) → aged_of rate coef ≡ rate * (coef - 1) / coef
  -- allowedRate + floor((unreservedRate − allowedRate) / rampUp)
  pub ramped : (allowed unreserved coef : ℕ) → ramped_of allowed unreserved coef ≡ allowed + (unreserved - allowed) / coef
  -- localFairRate − floor(localFairRate / rampDn)
  pub reduced : (local coef : ℕ) → reduced_of local coef ≡ local - local / coef
  -- the smaller of unreservedRate and received × weight × unit
  pub allowance : (received weight unit unreserved : ℕ) → allowance_of received weight unit unreserved ≡ min unreserved (received * weight * unit)
  -- floor(localFairRate / (weight × unit)), at most 65,534
  pub own : (rate weight unit : ℕ) → own_rate_of rate weight unit ≡ min (rate / (weight * unit)) 65534
  -- floor(allowedRate / (ageCoef × ticks per interval))
  pub share : (allowed coef ticks : ℕ) → share_of allowed coef ticks ≡ allowed / (coef * ticks)

-- ---- a station with one part anew, and what a call answers

pub record PartNames (st : Station) : Type 0 where
  pub flow : (f : Flow) → with_flow st f ≡ record { settings = st.settings; flow = f; fair = st.fair }
  pub fair : (f : Fair) → with_fair st f ≡ record { settings = st.settings; flow = st.flow; fair = f }
  pub credits : (c : Credits)
      → with_credits st.flow c
      ≡ record { credits = c; control = st.flow.control; primary = st.flow.primary; secondary = st.flow.secondary; stage = st.flow.stage }
  pub stage : (w : ℕ)
      → with_stage st.flow w
      ≡ record { credits = st.flow.credits; control = st.flow.control; primary = st.flow.primary; secondary = st.flow.secondary; stage = w }
  pub counters : (c : Four)
      → with_counters c st.fair
      ≡ record { counters = c; smoothed = st.fair.smoothed; decided = st.fair.decided; since = st.fair.since; received = st.fair.received }
  pub heard : (a : Advert) → changed_of st a ≡ with_fair st (heard_of st.fair a)
  -- A call that is carried out answers the station; a refusal is its number and what is said beside it, and leaves the station as it was.
  pub done : done_of st ≡ Ok st
  pub carried : (next : Station) → (number_said (done_of next) ≡ 0) × (detail_said (done_of next) ≡ 0) × (afterwards st (done_of next) ≡ next)
  pub refused : (n : ℕ) → (number_said (refused_of n) ≡ n) × (detail_said (refused_of n) ≡ 0) × (afterwards st (refused_of n) ≡ st)
  pub turned : (n detail : ℕ) → (number_said (turned_of n detail) ≡ n) × (detail_said (turned_of n detail) ≡ detail)
      × (mark_told (turned_of n detail) ≡ 0) × (station_left st (turned_of n detail) ≡ st)
  pub taken : (r : Client) → (number_said {A = Client} (Ok r) ≡ 0) × (detail_said {A = Client} (Ok r) ≡ 0) × (mark_told (Ok r) ≡ r.mark) × (station_left st (Ok r) ≡ r.station)
  -- of a selection, telling and showing: where nothing is answered, nothing is said
  pub not_chosen : (n : ℕ) → (number_said (not_chosen_of n) ≡ n) × (detail_said (not_chosen_of n) ≡ 0) × (origin_said (not_chosen_of n) ≡ 0)
      × (frame_said (not_chosen_of n) ≡ frame_of 0) × (rest_after st (not_chosen_of n) ≡ st)
  pub chosen : (r : station.Selected) → (number_said {A = station.Selected} (Ok r) ≡ 0) × (origin_said (Ok r) ≡ r.origin) × (frame_said (Ok r) ≡ r.frame) × (rest_after st (Ok r) ≡ r.station)
  pub not_told : (n : ℕ) → (number_said (not_told_of n) ≡ n) × (detail_said (not_told_of n) ≡ 0)
      × (advert_said (not_told_of n) ≡ record { ringlet = 0; ttl = 0; high = 0; low = 0; rate = 0 })
  pub told : (a : Advert) → (number_said {A = Advert} (Ok a) ≡ 0) × (advert_said (Ok a) ≡ a)
  pub not_shown : (n : ℕ) → (number_said (not_shown_of n) ≡ n) × (detail_said (not_shown_of n) ≡ 0) × (reading_said (not_shown_of n) ≡ blank_of)
  pub shown : (r : Reading) → (number_said {A = Reading} (Ok r) ≡ 0) × (reading_said (Ok r) ≡ r)

-- What an entry point answers, beside the station behind the reference.
pub record EntryNames : Type 0 where
  pub brief : (r : Done) → (number_said (brief_of r) ≡ number_said r) × (detail_said (brief_of r) ≡ detail_said r)
  pub charge : (r : Charged) → (number_said (charge_brief_of r) ≡ number_said r) × (detail_said (charge_brief_of r) ≡ detail_said r)
  pub marked : (r : Result Client Refused) → (number_said (marked_of r) ≡ number_said r) × (detail_said (marked_of r) ≡ detail_said r)
      × (afterwards 0 (marked_of r) ≡ mark_told r)
  pub chosen : (r : Result station.Selected Refused) → (number_said (chosen_of r) ≡ number_said r) × (detail_said (chosen_of r) ≡ detail_said r)
      × (afterwards (record { origin = 0; frame = frame_of 0 }) (chosen_of r) ≡ record { origin = origin_said r; frame = frame_said r })
  -- each whole: what is answered, and a refusal as it is
  pub answered : (st : Station) (s : Shaper) (r : Client) (t : station.Selected) → (brief_of (Ok st) ≡ Ok tt) × (charge_brief_of (Ok s) ≡ Ok tt)
      × (marked_of (Ok r) ≡ Ok r.mark) × (chosen_of (Ok t) ≡ Ok (record { origin = t.origin; frame = t.frame }))
  pub passed : (e : Refused) → (brief_of (Err e) ≡ Err e) × (charge_brief_of (Err e) ≡ Err e) × (marked_of (Err e) ≡ Err e) × (chosen_of (Err e) ≡ Err e)

-- ---- histories: each call is lent what the one before left

pub record HistoryNames (st : Station) (w : Which) : Type 0 where
  pub no_call : (after st [] ≡ st) × (record_of w st [] ≡ [])
  pub a_call : (c : Call) (cs : List Call)
      → (after st (c ∷ cs) ≡ after (step c st).station cs) × (record_of w st (c ∷ cs) ≡ trace w c (step c st).answer st ++ record_of w (step c st).station cs)
  pub tick : (a b c : ℕ) → step (tick a b c) st ≡ of_done st (tick_of st a b c)
  pub client : (class size hops : ℕ) → step (offer_client class size hops) st ≡ of_client st (offer_client_of st class size hops)
  pub transit : (class size hops eligible : ℕ) → step (offer_transit class size hops eligible) st ≡ of_done st (offer_transit_of st class size hops eligible)
  pub control : (size : ℕ) → step (offer_control size) st ≡ of_done st (offer_control_of st size)
  pub select : step select st ≡ of_selected st (select_of st)
  pub age : step age st ≡ of_done st (age_of st)
  pub hear : (frame : List ℕ) (bytes : Bytes frame) → step (hear frame bytes) st ≡ of_done st (hear_of st frame)
  pub tell : step tell st ≡ record { answer = record { number = number_said (tell_of st); mark = 0; origin = 0; frame = frame_of 0 }; station = st }
  pub show : step show st ≡ record { answer = record { number = number_said (show_of st); mark = 0; origin = 0; frame = frame_of 0 }; station = st }
  -- what a call answered, and the station afterwards
  pub of_done_lem : (r : Done) → of_done st r ≡ record { answer = record { number = number_said r; mark = 0; origin = 0; frame = frame_of 0 }; station = afterwards st r }
  pub of_client_lem : (r : Result Client Refused)
      → of_client st r ≡ record { answer = record { number = number_said r; mark = mark_told r; origin = 0; frame = frame_of 0 }; station = station_left st r }
  pub of_selected_lem : (r : Result station.Selected Refused)
      → of_selected st r ≡ record { answer = record { number = number_said r; mark = 0; origin = origin_said r; frame = frame_said r }; station = rest_after st r }

-- ---- the ring

pub record RingNames : Type 0 where
  -- Side: left 1, right 2; the home side too.
  pub codes : (code_of Left ≡ 1) × (code_of Right ≡ 2)
  pub home : (side_of 1 ≡ Left) × (side_of 2 ≡ Right)
  -- Yes or no: 1 or 0.
  pub bits : (bit_of true ≡ 1) × (bit_of false ≡ 0)
  -- two different stations of a ring of 2 to 63, and no bit above its links
  pub placed : (stations own target links : ℕ)
      → Placed stations own target links
      ↔ ((1 < stations) × (stations < 64) × (own < stations) × (target < stations) × (own ≡ target → ⊥) × (links < 2 ^ stations))
  -- Left goes to the next lower number, and from 0 to the last.
  pub left : (stations k : ℕ) → k + 1 < stations → next_of Left stations (k + 1) ≡ k
  pub left_last : (stations : ℕ) → 0 < stations → next_of Left stations 0 ≡ stations - 1
  -- the station so many hops on
  pub no_hop : (way : Way) (stations at : ℕ) → station_after way stations at 0 ≡ at
  pub one_hop : (way : Way) (stations at n : ℕ) → station_after way stations at (suc n) ≡ station_after way stations (next_of way stations at) n
  -- the opposite side
  pub others : (other_of Left ≡ Right) × (other_of Right ≡ Left)
  -- On a tie: right if the own index is lower than the target's, otherwise left.
  pub tie_lower : (own target : ℕ) → own < target → tie_of own target ≡ Right
  pub tie_otherwise : (own target : ℕ) → target ≤ own → tie_of own target ≡ Left
  -- the links that so many hops cross; by the number that rpr_choose answers, on the side of byte 1 as many hops as byte 2 says
  pub no_link : (way : Way) (stations at : ℕ) → links_of way stations at 0 ≡ []
  pub one_link : (way : Way) (stations at n : ℕ) → links_of way stations at (suc n) ≡ link_of way stations at ∷ links_of way stations (next_of way stations at) n
  pub links_told_lem : (stations own r : ℕ) → links_told stations own r ≡ links_of (side_of (answer_byte r 1)) stations own (answer_byte r 2)
  pub byte_told : (r k : ℕ) → answer_byte r k ≡ get_or (digits 8 r) k 0
  -- a course that ends, and one that goes over a link and then on
  pub ends : (delivered : Bool) → ended delivered ≡ record { links = []; delivered = delivered }
  pub over : (link : ℕ) (rest : Course) → across link rest ≡ record { links = link ∷ rest.links; delivered = rest.delivered }
  -- what a choice and a path answer where they are carried out, and where they are refused
  pub chosen : (code distance ttl : ℕ) (mark : Bool)
      → chosen_as code distance ttl mark ≡ Ok (record { side = code; distance = distance; ttl = ttl; mark = mark })
  pub moved : (delivered : Bool) (hops : ℕ) → journey delivered hops ≡ Ok (record { delivered = delivered; hops = hops })
  pub refused : (n : ℕ) → (no_choice n ≡ Err (refusal_of n)) × (no_path n ≡ Err (refusal_of n))

-- ---- numbers in bytes, and defaults

pub record ByteNames : Type 0 where
  -- each below 256,
  pub bytes : (xs : List ℕ) → Bytes xs ↔ ((j : ℕ) → get_or xs j 0 < 256)
  -- little-endian,
  pub le_none : (xs : List ℕ) (at : ℕ) → le 0 xs at ≡ 0
  pub le_more : (n : ℕ) (xs : List ℕ) (at : ℕ) → le (suc n) xs at ≡ get_or xs at 0 + 256 * le n xs (suc at)
  -- big-endian,
  pub be_none : (xs : List ℕ) (at : ℕ) → be 0 xs at ≡ 0
  pub be_more : (n : ℕ) (xs : List ℕ) (at : ℕ) → be (suc n) xs at ≡ 256 * be n xs at + get_or xs (at + n) 0
  -- and the bytes of a number, the lowest first
  pub digits_none : (v : ℕ) → digits 0 v ≡ []
  pub digits_more : (n v : ℕ) → digits (suc n) v ≡ (v % 256) ∷ digits n (v / 256)
  -- words of 4 bytes, one after the other
  pub words_none : (xs : List ℕ) (at : ℕ) → words_at 0 xs at ≡ []
  pub words_more : (n : ℕ) (xs : List ℕ) (at : ℕ) → words_at (suc n) xs at ≡ le 4 xs at ∷ words_at n xs (at + 4)
  pub words_from_lem : (xs : List ℕ) (k n : ℕ) → words_from xs k n ≡ words_at n xs (4 * k)
  pub held : (q : Queue) → frames_held q ≡ length (frames_of q) ∷ sizes (frames_of q) ∷ []
  -- bytes in the place of what stood there
  pub puts : (xs : List ℕ) (at : ℕ) (bs : List ℕ) → put xs at bs ≡ take at xs ++ bs ++ drop (at + length bs) xs
  -- ageCoef (default 4); lpCoef and rampUp (default 64)
  pub usual : (weight unit ticks rate : ℕ)
      → usual_of weight unit ticks rate ≡ record { weight = weight; unit = unit; ticks = ticks; unreserved = rate; age = 4; lp = 64; ramp = 64 }

pub record Names : Type 0 where
  pub refusals : RefusalNames
  pub shapers : ShaperNames
  pub lines : QueueNames
  pub going : GoingNames
  pub readings : ReadingNames
  pub rates : RateNames
  pub anew : (st : Station) → PartNames st
  pub entries : EntryNames
  pub histories : (st : Station) (w : Which) → HistoryNames st w
  pub sides : RingNames
  pub numbers : ByteNames
