-- How a station starts, what each call but hearing (`Listens`) makes of a station in range (which rule is applied to which of its parts), for a client's frame
-- also where it gets 5, 6 or 7, and what each call is to a shaper's record, for the second condition. Assumes nothing.
use Rattle.std.specs.Prelude.{ℕ, ◌+◌, ◌*◌, ◌-◌, ◌/◌, ◌%◌, ◌≤◌, ◌<◌, min, true, false, List, [], ◌∷◌, ◌++◌, ◌⊎◌, ◌≡◌, eqb, replicate, Ok}
use Rattle.decide.specs.Test.{test}
use Rattle.shaper.specs.Credit as shaper
use Rattle.settings.specs.declared.Bucket.{Bucket}
use Rattle.settings.specs.declared.Settings.{Settings}
use Rattle.settings.specs.Range.{SettingsOk}
use Rattle.queue.specs.declared.Frame.{Frame}
use Rattle.queue.specs.Frame.{FrameOk, word_of}
use Rattle.queue.specs.Queue.{frames_of, sizes, space_of}
use Rattle.credits.specs.declared.Credits.{Credits}
use Rattle.credits.specs.declared.Way.{Way}
use Rattle.credits.specs.declared.Which.{Which}
use Rattle.credits.specs.declared.Which.TheVariants.{M, D}
use Rattle.credits.specs.Which.{bucket_of, credit_of, permits_all, sends, fed}
use Rattle.credits.specs.Short.{short_all}
use Rattle.credits.specs.Way.{way_of, needs_of, mark_of}
use Rattle.flow.specs.declared.Line.{Line}
use Rattle.flow.specs.declared.Line.TheVariants.{Control}
use Rattle.flow.specs.Parts.{queue_of, capacity_of, bounds_of, with_credits, with_stage}
use Rattle.flow.specs.Tick.{waits}
use Rattle.flow.specs.Offer.{queue_for, client_frame}
use Rattle.flow.specs.Events.{way_back}
use Rattle.flow.specs.Frames.{Staged}
use Rattle.selection.specs.Select as selection
use Rattle.fair.specs.declared.Fair.{Fair}
use Rattle.fair.specs.Age as interval
use Rattle.fair.specs.Count.{count_of}
use Rattle.fair.specs.Advertise.{told_of}
use Rattle.station.specs.declared.Station.{Station}
use Rattle.shaper.specs.Refused.{number_said, detail_said, afterwards}
use Rattle.station.specs.Answers.{with_flow, with_fair, Done, refused_of, done_of}
use Rattle.station.specs.Calls.{fresh_of, start_of, tick_of, select_of, age_of, amount_for}
use Rattle.station.specs.Offers.{turned_of, offer_transit_of, offer_control_of, offer_client_of}
use Rattle.station.specs.Hear.{tell_of}
use Rattle.station.specs.Show.{reading_of, show_of}
use Rattle.station.specs.History as history
use Rattle.rpr.specs.Lent as lent
use Rattle.rpr.specs.Told.{read_off, events_told}
use Rattle.wire.specs.Wire.{Bytes}
use Rattle.station.specs.History.{Call, Answer, trace}

-- ---- start

-- Settings at their least.
abbrev pub least : Settings
least =
    let b : Bucket = record { lo = 64; hi = 65; amount = 0 } in
    record {
      address = record { high = 0; low = 0 };
      ringlet = 0;
      mtu = 64;
      shapers = record { m = b; a = b; b = b; c = b; d = b };
      queues = record { control = 64; primary = 64; secondary = 128; threshold = 0 };
      fairness = record { weight = 1; unit = 1; ticks = 1; unreserved = 1; age = 1; lp = 16; ramp = 16 };
      site = record { stations = 2; method = 0; trip = 1; down = 16 };
    }

pub record Starts (s : Settings) : Type 0 where
  -- Credit starts at loLimit.
  pub credits : (w : Which) → credit_of (fresh_of s).flow.credits w ≡ (bucket_of s w).lo
  -- Each queue has 128 slots, all empty at the start, and so is the stage.
  pub queues : (l : Line) → queue_of (fresh_of s).flow l ≡ record { slots = replicate 128 0; head = 0; count = 0; held = 0 }
  pub stage : (fresh_of s).flow.stage ≡ 0
  -- Counters and smoothed rates start at 0, own rate by its formula, other rates at unreservedRate, with no congestion, received ttl 255, received address
  -- and rate 0; no interval has gone by since a change.
  pub rates : (fresh_of s).fair
      ≡ record {
        counters = record { add = 0; fw = 0; addc = 0; fwc = 0 };
        smoothed = record { add = 0; fw = 0; addc = 0; fwc = 0 };
        decided = record {
          local = s.fairness.unreserved;
          allowed = s.fairness.unreserved;
          allowedc = s.fairness.unreserved;
          own = min (s.fairness.unreserved / (s.fairness.weight * s.fairness.unit)) 65534;
          congested = 0;
        };
        since = 0;
        received = record { downstream = 0; ttl = 255; high = 0; low = 0; rate = 0 };
      }
  pub settings : (fresh_of s).settings ≡ s
  -- It is so whatever the station was.
  pub whatever : (st : Station) → SettingsOk s → start_of st s ≡ done_of (fresh_of s)
  pub refused : (st : Station) → (SettingsOk s → ⊥) → start_of st s ≡ refused_of 1

-- ---- calls on a station in range

-- the frame stands last in the queue, and nothing else changes
pub record Brings (st : Station) (l : Line) (x : Frame) (r : Done) : Type 0 where
  pub number : (number_said r ≡ 0) × (detail_said r ≡ 0)
  pub last : frames_of (queue_of (afterwards st r).flow l) ≡ frames_of (queue_of st.flow l) ++ (x ∷ [])
  pub others : (k : Line) → (k ≡ l → ⊥) → queue_of (afterwards st r).flow k ≡ queue_of st.flow k
  pub kept : ((afterwards st r).flow.credits ≡ st.flow.credits) × ((afterwards st r).flow.stage ≡ st.flow.stage)
      × ((afterwards st r).fair ≡ st.fair) × ((afterwards st r).settings ≡ st.settings)

-- each shaper that a client's frame needs, going in this way, permits
abbrev pub Permits : Station → Way → Type 0
Permits st way = permits_all st.settings st.flow.credits (needs_of way) ≡ true

-- downstream congested, hops > hopsToCongestion = 256 − ttl, and addRateCongested + size > allowedRateCongested
abbrev pub Passes : Fair → ℕ → ℕ → Type 0
Passes f size hops = ((f.received.downstream ≡ 1) × (256 - f.received.ttl < hops)) × (f.decided.allowedc < f.counters.addc + size)

-- A client's frame in range, its hops within the ring, where it goes in this way. A client gives no mark.
pub record Stages (st : Station) (class size hops : ℕ) (way : Way) : Type 0 where
  -- The stage holds one client frame.
  pub full : Staged st.flow → offer_client_of st class size hops ≡ turned_of 5 0
  -- Client A needs .. A. Client B needs .. B and D .. Excess B and C need C and D. A turn-down carries the bytes missing.
  pub barred : (Staged st.flow → ⊥) → (Permits st way → ⊥)
      → offer_client_of st class size hops ≡ turned_of 6 (short_all st.settings st.flow.credits (needs_of way))
  -- If downstream congested, an eligible client frame with hops > hopsToCongestion gets 7 when addRateCongested + size > allowedRateCongested.
  pub passing : (Staged st.flow → ⊥) → Permits st way → mark_of way ≡ 1 → Passes st.fair size hops → offer_client_of st class size hops ≡ turned_of 7 0
  -- Else the frame lies in the stage, with its mark, and each needed shaper has one send of its size.
  pub taken : (Staged st.flow → ⊥) → Permits st way → ((mark_of way ≡ 1) × Passes st.fair size hops → ⊥)
      → offer_client_of st class size hops
      ≡ Ok (record {
        mark = mark_of way;
        station =
            with_flow st
            (with_stage (with_credits st.flow (fed st.settings st.flow.credits (sends (needs_of way) size))) (word_of (client_frame way class size hops)));
      })

-- Yes or no: 1 or 0.
abbrev pub YesNo : ℕ → Type 0
YesNo x = (x ≡ 0) ⊎ (x ≡ 1)

pub record Acts (st : Station) : Type 0 where
  -- A tick changes credits alone.
  pub tick : (a b c : ℕ) → YesNo a × YesNo b × YesNo c
      → tick_of st a b c ≡ done_of (with_flow st (with_credits st.flow (afterwards st (tick_of st a b c)).flow.credits))
  -- Transit A goes to the primary queue, B and C to the secondary.
  pub transit : (class size hops eligible : ℕ)
      → let x : Frame = record { size = size; hops = hops; class = class; mark = eligible } in
      FrameOk (bounds_of st.settings) x → hops < st.settings.site.stations
      → size ≤ space_of (queue_of st.flow (queue_for st.settings class)) (capacity_of st.settings (queue_for st.settings class))
      → Brings st (queue_for st.settings class) x (offer_transit_of st class size hops eligible)
  -- Control frames, given by size alone (class A, 1 hop), go to the control queue.
  pub control : (size : ℕ)
      → let x : Frame = record { size = size; hops = 1; class = 0; mark = 0 } in
      FrameOk (bounds_of st.settings) x → size ≤ space_of st.flow.control st.settings.queues.control
      → Brings st Control x (offer_control_of st size)
  -- A client's frame goes in by the credits of the station.
  pub client : (class size hops : ℕ) → FrameOk (bounds_of st.settings) (record { size = size; hops = hops; class = class; mark = 0 })
      → hops < st.settings.site.stations → Stages st class size hops (way_of st.settings st.flow.credits class)
  -- The selected frame is counted by where it came from, its mark, hops and size.
  pub select :
      let r = selection.select_of st.settings st.flow in
      select_of st ≡ Ok (record {
        origin = r.origin;
        frame = r.frame;
        station = record {
          settings = st.settings;
          flow = r.flow;
          fair = count_of st.settings st.fair r.origin r.frame.mark r.frame.hops r.frame.size;
        };
      })
  -- An aging interval looks at the bytes of the secondary queue.
  pub age : age_of st ≡ done_of (with_fair st (interval.age_of st.fair st.settings (sizes (frames_of st.flow.secondary))))
  -- What is told is told of the station's own fair rates.
  pub tell : tell_of st ≡ Ok (told_of st.fair st.settings)
  pub show : show_of st ≡ Ok (reading_of st)

-- ---- a shaper's record: what a call with this answer is to it

pub record Traces (st : Station) (w : Which) (r : Answer) : Type 0 where
  -- one event per tick,
  pub tick : (a b c : ℕ) → r.number ≡ 0
      → trace w (history.tick a b c) r st ≡ shaper.tick_of (waits st.flow (eqb a 1) (eqb b 1) (eqb c 1) w) (amount_for st w) ∷ []
  pub no_tick : (a b c : ℕ) → (r.number ≡ 0 → ⊥) → trace w (history.tick a b c) r st ≡ []
  -- one send per charge: of a client's frame that was taken, to the shapers that it needs by its class and mark;
  pub client : (class size hops : ℕ) → r.number ≡ 0
      → trace w (history.offer_client class size hops) r st ≡ sends (needs_of (way_back class r.mark)) size w
  pub no_client : (class size hops : ℕ) → (r.number ≡ 0 → ⊥) → trace w (history.offer_client class size hops) r st ≡ []
  -- of a selected frame, to M where it is a control frame, and to D where it is a secondary one and mtu ≤ its queue's space.
  pub managed : r.origin ≡ 1 → trace w history.select r st ≡ sends (M ∷ []) r.frame.size w
  pub secondary : r.origin ≡ 3 → test (selection.needy st.settings st.flow) ≡ false → trace w history.select r st ≡ sends (D ∷ []) r.frame.size w
  pub needy : r.origin ≡ 3 → test (selection.needy st.settings st.flow) ≡ true → trace w history.select r st ≡ []
  pub elsewhere : (r.origin ≡ 1 → ⊥) → (r.origin ≡ 3 → ⊥) → trace w history.select r st ≡ []
  -- No other call is an event to a shaper.
  pub transit : (class size hops eligible : ℕ) → trace w (history.offer_transit class size hops eligible) r st ≡ []
  pub control : (size : ℕ) → trace w (history.offer_control size) r st ≡ []
  pub age : trace w history.age r st ≡ []
  pub hear : (frame : List ℕ) (bytes : Bytes frame) → trace w (history.hear frame bytes) r st ≡ []
  pub tell : trace w history.tell r st ≡ []
  pub show : trace w history.show r st ≡ []
  -- No credit is asked: the record is not made from what it is to be compared with.
  pub creditless : (c : Call) (k : Credits) → trace w c r (with_flow st (with_credits st.flow k)) ≡ trace w c r st

-- The number r that a host got for a call on this station, read as eight bytes, byte 0 the lowest: which answer it is, and so what the call was to a shaper.
pub record ReadsOff (st : Station) (w : Which) (r : ℕ) : Type 0 where
  -- Byte 0 is 0 where the call was carried out, else the refusal number. Then byte 1 origin, 4 eligible, 6 and 7 size; of a refusal a record asks none of them.
  pub number : (read_off r).number ≡ r % 256
  pub origin : (read_off r).origin ≡ r / 256 % 256
  pub mark : (read_off r).mark ≡ r / 4294967296 % 256
  pub size : (read_off r).frame.size ≡ r / 281474976710656 % 65536
  pub tick : (a b c : ℕ) → events_told w (lent.tick a b c) r st ≡ trace w (history.tick a b c) (read_off r) st
  pub client : (class size hops : ℕ) → events_told w (lent.offer_client class size hops) r st ≡ trace w (history.offer_client class size hops) (read_off r) st
  pub select : events_told w lent.select r st ≡ trace w history.select (read_off r) st
  -- No other call is an event to a shaper.
  pub start : (settings : List ℕ) (bytes : Bytes settings) → events_told w (lent.start settings bytes) r st ≡ []
  pub transit : (class size hops eligible : ℕ) → events_told w (lent.offer_transit class size hops eligible) r st ≡ []
  pub control : (size : ℕ) → events_told w (lent.offer_control size) r st ≡ []
  pub age : events_told w lent.age r st ≡ []
  pub read_frame_lem : (frame : List ℕ) (bytes : Bytes frame) → events_told w (lent.read_frame frame bytes) r st ≡ []
  pub write_frame_lem : (room : List ℕ) → events_told w (lent.write_frame room) r st ≡ []
  pub show : (room : List ℕ) → events_told w (lent.show room) r st ≡ []
