-- The second condition of acceptance, in its own words: credits, frame selection, fair rates, ringlet choice and fairness frames equal the rules of documents 01
-- and 02, step for step; fairness frames are both written and read. That each exported call does what the definitions say is its contract (`AnswersDetermined` has
-- them all, made from the contracts' own text). What the host is told and finds is said in Host.antt; which rule each call of a station applies to which of its parts by `Acts` and
-- `Listens`; here stand the rules, in the paper's words. Ranges and refusals are the first condition's. Assumes nothing.
use Rattle.std.specs.Prelude.{ℕ, suc, ◌+◌, ◌*◌, ◌-◌, ◌/◌, ◌%◌, ◌^◌, ◌≤◌, ◌<◌, max, true, false, List, [], ◌∷◌, ◌⊎◌, ◌↔◌, ◌≡◌, length, take}
use Rattle.decide.specs.Test.{test, Holds}
use Rattle.settings.specs.declared.Settings.{Settings}
use Rattle.settings.specs.Range.{SettingsOk}
use Rattle.settings.specs.Words.{settings_length, settings_at}
use Rattle.wire.specs.Wire.{Bytes}
use Rattle.queue.specs.declared.Frame.{Frame}
use Rattle.queue.specs.declared.Bounds.{Bounds}
use Rattle.queue.specs.Frame.{FrameOk, word_of, frame_of}
use Rattle.queue.specs.Queue.{frames_of, first_frame, space_of}
use Rattle.credits.specs.declared.Credits.{Credits}
use Rattle.credits.specs.declared.Which.{Which}
use Rattle.credits.specs.declared.Which.TheVariants.{M, D}
use Rattle.credits.specs.Which.{credit_of, sends, fed}
use Rattle.flow.specs.declared.Flow.{Flow}
use Rattle.flow.specs.declared.Line.TheVariants.{Control, Primary, Secondary}
use Rattle.flow.specs.Range.{FlowOk}
use Rattle.flow.specs.Frames.{Holding, Staged}
use Rattle.selection.specs.Select as selection
use Rattle.selection.specs.Select.{control_ready, primary_ready, needy, stage_ready, secondary_ready, leaves, leaves_charged, leaves_stage, nothing_of}
use Rattle.selection.specs.Frames.{Moves}
use Rattle.rates.specs.Rates.{smoothed_of, shown_of}
use Rattle.rates.specs.Steady.{steady_of, gap_of}
use Rattle.fair.specs.declared.Fair.{Fair}
use Rattle.advert.specs.declared.Advert.{Advert}
use Rattle.fair.specs.Range.{FairOk}
use Rattle.fair.specs.ReadBack.{ReadBack}
use Rattle.ring.specs.declared.Way.{Way}
use Rattle.ring.specs.declared.Way.TheVariants.{Left, Right}
use Rattle.ring.specs.Links.{other_of, next_of, link_of, ahead_of, reach_of, station_after}
use Rattle.ring.specs.Choosing.{code_of, distance_of, tie_of, reaches_of, along_of, choose_of, chosen_as, no_choice, Placed}
use Rattle.ring.specs.Pairs.{Together}
use Rattle.wrap.specs.Walking.{ended, across, at_home, opposite, course_of, side_of, journey, path_of}
use Rattle.station.specs.declared.Station.{Station}
use Rattle.station.specs.Range.{StationOk}
use Rattle.station.specs.History as history
use Rattle.station.specs.History.{Call, Answer, Recorded, step}
use Rattle.station.specs.Steady.{Rate}
use Rattle.layout.specs.Layout.{station_length}
use Rattle.layout.specs.Reading.{reading_length}
use Rattle.rpr.specs.Station.{start_answer}
use Rattle.rpr.specs.Lent.{Lending, memory_after, memory_through, NoNewStart, started_in, station_in}
use Rattle.rpr.specs.Told.{record_told}
use Rattle.rpr.specs.Steady.{shown_word, smoothed_word, EndsInterval, intervals_in, SteadyIn, GivesRate}
use Rattle.rpr.specs.Hops.{RingTold}
use Rattle.rpr.specs.Method.{RateTold, FreeTold}
use Rattle.rpr.specs.Ways.{choose_answer}
use Rattle.rpr.specs.Pairs.{PairTold}
use Rattle.rpr.specs.Says.{Keeps}
use Rattle.paper.specs.Names.{Names}
use Rattle.paper.specs.LentNames.{LentNames}
use Rattle.paper.specs.Rules.{Ticks, Charges, Lacks, Enters, Counts, Tells, Reads, Writes, Hears}
use Rattle.paper.specs.Acts.{least, Starts, YesNo, Acts, Traces, ReadsOff}
use Rattle.paper.specs.ByValue.{Lost, Unfit, Listens}
use Rattle.paper.specs.Intervals.{Shares, Ages, Rows, Apart}
use Rattle.paper.specs.Host.{Lays, Hosts, SettingsWords, Begins, ChoiceTold, ChoiceRefused, PathTold, PathRefused}

-- ---- frame selection

-- Which rows hold,
pub record Ready (s : Settings) (f : Flow) : Type 0 where
  -- control, if its head's size fits the space of both transit queues and M permits
  pub control : (x : Frame) (xs : List Frame) → frames_of f.control ≡ x ∷ xs
      → Holds (control_ready s f)
      ↔ ((x.size ≤ space_of f.primary s.queues.primary)
      × ((x.size ≤ space_of f.secondary s.queues.secondary) × (s.shapers.m.lo < f.credits.m)))
  pub no_control : frames_of f.control ≡ [] → Holds (control_ready s f) → ⊥
  -- primary
  pub primary : Holds (primary_ready f) ↔ Holding f.primary
  -- secondary, if mtu > its space
  pub needy_secondary : Holds (needy s f) ↔ (space_of f.secondary s.queues.secondary < s.mtu)
  pub needy_tested : (test (needy s f) ≡ true) ↔ Holds (needy s f)
  -- stage
  pub stage : Holds (stage_ready f) ↔ Staged f
  -- secondary, if D permits
  pub secondary : Holds (secondary_ready s f) ↔ (Holding f.secondary × (s.shapers.d.lo < f.credits.d))

-- and the first that holds.
pub record Selects (s : Settings) (f : Flow) : Type 0 where
  pub ready : Ready s f
  -- control, if its head's size fits the space of both transit queues and M permits (M charged);
  pub control : Holds (control_ready s f) → selection.select_of s f ≡ leaves_charged s f Control M
  -- primary;
  pub primary : (Holds (control_ready s f) → ⊥) → Holds (primary_ready f) → selection.select_of s f ≡ leaves f Primary
  -- secondary, if mtu > its space (nothing charged);
  pub needy_secondary : (Holds (control_ready s f) → ⊥) → (Holds (primary_ready f) → ⊥) → Holds (needy s f) → selection.select_of s f ≡ leaves f Secondary
  -- stage;
  pub stage : (Holds (control_ready s f) → ⊥) → (Holds (primary_ready f) → ⊥) → (Holds (needy s f) → ⊥) → Holds (stage_ready f)
      → selection.select_of s f ≡ leaves_stage f
  -- secondary, if D permits (D charged);
  pub secondary : (Holds (control_ready s f) → ⊥) → (Holds (primary_ready f) → ⊥) → (Holds (needy s f) → ⊥) → (Holds (stage_ready f) → ⊥)
      → Holds (secondary_ready s f) → selection.select_of s f ≡ leaves_charged s f Secondary D
  -- nothing.
  pub nothing : (Holds (control_ready s f) → ⊥) → (Holds (primary_ready f) → ⊥) → (Holds (needy s f) → ⊥) → (Holds (stage_ready f) → ⊥)
      → (Holds (secondary_ready s f) → ⊥) → selection.select_of s f ≡ nothing_of f
  -- Where it came from: control 1, primary 2, secondary 3, stage 4, nothing 0; and where nothing goes nothing changes.
  pub origins : ((leaves_charged s f Control M).origin ≡ 1) × ((leaves f Primary).origin ≡ 2) × ((leaves f Secondary).origin ≡ 3) × ((leaves_stage f).origin ≡ 4)
      × ((leaves_charged s f Secondary D).origin ≡ 3)
  pub no_frame : nothing_of f ≡ record { origin = 0; frame = frame_of 0; flow = f }
  -- What is charged, and what is not.
  pub m_charged : (leaves_charged s f Control M).flow.credits ≡ fed s f.credits (sends (M ∷ []) (first_frame f.control).size)
  pub d_charged : (leaves_charged s f Secondary D).flow.credits ≡ fed s f.credits (sends (D ∷ []) (first_frame f.secondary).size)
  pub uncharged : ((leaves f Primary).flow.credits ≡ f.credits) × ((leaves f Secondary).flow.credits ≡ f.credits) × ((leaves_stage f).flow.credits ≡ f.credits)
  -- The chosen frame leaves its queue, where it was first; no other frame moves.
  pub moves : SettingsOk s → FlowOk s f → Moves f (selection.select_of s f)

-- ---- smoothed rates do not stop short (document 02, A4)

-- At an interval with this rate, of the stored number s:
pub record Steadies (coef rate s : ℕ) : Type 0 where
  -- With a steady rate, s must not stand still unless the shown rate equals it.
  pub stands : (smoothed_of coef s rate ≡ s) ↔ (shown_of coef s ≡ rate)
  -- Where less is shown it rises, where more is shown it falls, by the difference.
  pub rises : shown_of coef s < rate → smoothed_of coef s rate ≡ s + (rate - shown_of coef s)
  pub falls : rate < shown_of coef s → s ≡ smoothed_of coef s rate + (shown_of coef s - rate)
  -- The rate shown does not pass the steady rate,
  pub not_above : 0 < coef → shown_of coef s ≤ rate → (shown_of coef s ≤ shown_of coef (smoothed_of coef s rate)) × (shown_of coef (smoothed_of coef s rate) ≤ rate)
  pub not_below : 0 < coef → rate ≤ shown_of coef s → (rate ≤ shown_of coef (smoothed_of coef s rate)) × (shown_of coef (smoothed_of coef s rate) ≤ shown_of coef s)
  -- and it comes to it: after k × lpCoef intervals where it was less than 2 ^ k off, and after 31 × lpCoef from any number in range.
  pub arrives : 0 < coef → (k n : ℕ) → gap_of (shown_of coef s) rate < 2 ^ k → k * coef ≤ n → shown_of coef (steady_of coef rate n s) ≡ rate
  pub arrives_always : 0 < coef → (n : ℕ) → shown_of coef s ≤ 2147483647 → rate ≤ 2147483647 → 31 * coef ≤ n → shown_of coef (steady_of coef rate n s) ≡ rate
  -- What is shown is at most the larger of what was shown and of the rate: so it stays in its range,
  pub within : shown_of coef (smoothed_of coef s rate) ≤ max (shown_of coef s) rate
  -- which one product tells.
  pub range : 0 < coef → (shown_of coef s ≤ 2147483647) ↔ (s < coef * 2147483648)

-- Over the host's calls, where the counter of this rate stands at the same number at each rpr_age among them: rpr_show gives that number
pub record TellsSteady (room mem : List ℕ) (calls : List Lending) (k : Rate) (rate : ℕ) : Type 0 where
  -- after j × lpCoef of them where what was shown was less than 2 ^ j off,
  pub soon : (j : ℕ) → gap_of (shown_word room mem (smoothed_word k)) rate < 2 ^ j → j * (station_in mem).settings.fairness.lp ≤ intervals_in mem calls
      → GivesRate room (memory_through mem calls) k rate
  -- and after 31 × lpCoef always.
  pub always : 31 * (station_in mem).settings.fairness.lp ≤ intervals_in mem calls → GivesRate room (memory_through mem calls) k rate

-- ---- ringlet choice and path

-- A ring of so many stations, numbered from 0; right goes to the next higher number.
pub record Joins (stations : ℕ) : Type 0 where
  -- Link k joins k and k+1,
  pub next : (k : ℕ) → k + 1 < stations → (link_of Right stations k ≡ k) × (next_of Right stations k ≡ k + 1)
  -- the last joins 0;
  pub last : 0 < stations → (link_of Right stations (stations - 1) ≡ stations - 1) × (next_of Right stations (stations - 1) ≡ 0)
  -- and it is the same link from both its ends.
  pub both_ends : (way : Way) (at : ℕ) → at < stations → link_of way stations at ≡ link_of (other_of way) stations (next_of way stations at)
  -- One 64-bit word holds a bit per link, set if usable: bit k is that of link k.
  pub bit : (way : Way) (links at : ℕ) → (ahead_of way stations links at ≡ true) ↔ (links / 2 ^ link_of way stations at % 2 ≡ 1)

-- Of two different stations of a ring, `station_after way stations own n` being the station n hops on:
pub record Reaches (stations own target links : ℕ) : Type 0 where
  -- the distance is the fewest hops that end at the target;
  pub arrives : (way : Way) → station_after way stations own (distance_of way stations own target) ≡ target
  pub not_before_lem : (way : Way) (n : ℕ) → n < distance_of way stations own target → station_after way stations own n ≡ target → ⊥
  -- how far each side reaches is the unbroken run of usable links from the station;
  pub unbroken : (way : Way) (n : ℕ) → n < reach_of way stations own links → ahead_of way stations links (station_after way stations own n) ≡ true
  pub broken : (way : Way) → reach_of way stations own links < stations
      → ahead_of way stations links (station_after way stations own (reach_of way stations own links)) ≡ false
  -- a side reaches the target if that is as far as the distance.
  pub reaches : (way : Way) → (reaches_of way stations own target links ≡ true) ↔ (distance_of way stations own target ≤ reach_of way stations own links)

-- The path of a wrap-marked frame, by the links that its hops use.
pub record Wraps (stations links target : ℕ) (home : Way) : Type 0 where
  -- On its home side it moves on until the link ahead is unusable, then turns to the opposite ringlet,
  pub moves : (left at : ℕ) → (at ≡ target → ⊥) → ahead_of home stations links at ≡ true
      → course_of stations links target home (suc left) at_home at
      ≡ across (link_of home stations at) (course_of stations links target home left at_home (next_of home stations at))
  pub turns : (left at : ℕ) → (at ≡ target → ⊥) → ahead_of home stations links at ≡ false
      → course_of stations links target home (suc left) at_home at ≡ course_of stations links target home (suc left) opposite at
  -- and back again at the next break.
  pub moves_opposite : (left at : ℕ) → ahead_of (other_of home) stations links at ≡ true
      → course_of stations links target home (suc left) opposite at
      ≡ across (link_of (other_of home) stations at) (course_of stations links target home left opposite (next_of (other_of home) stations at))
  pub turns_back : (left at : ℕ) → ahead_of (other_of home) stations links at ≡ false
      → course_of stations links target home (suc left) opposite at ≡ course_of stations links target home (suc left) at_home at
  -- Delivered when on the home side at the target, also just after a turn.
  pub delivered : (left at : ℕ) → at ≡ target → course_of stations links target home left at_home at ≡ ended true
  -- Not delivered once the hops are used, or if both links of the station are unusable.
  pub used : (at : ℕ) → (at ≡ target → ⊥) → course_of stations links target home 0 at_home at ≡ ended false
  pub used_opposite : (at : ℕ) → course_of stations links target home 0 opposite at ≡ ended false
  pub stuck : (left at : ℕ) → (at ≡ target → ⊥) → ahead_of home stations links at ≡ false → ahead_of (other_of home) stations links at ≡ false
      → course_of stations links target home (suc left) at_home at ≡ ended false

-- Side 3 is default; protection 1 is protected, 2 unprotected.
pub record Chooses (stations own target links ring : ℕ) : Type 0 where
  -- Protected left or right: that side if it reaches, else the other if it reaches, else 8.
  pub that : (way : Way) → reaches_of way stations own target links ≡ true
      → choose_of stations own target links (code_of way) 1 ring ≡ along_of way stations own target 1 ring
  pub other : (way : Way) → reaches_of way stations own target links ≡ false → reaches_of (other_of way) stations own target links ≡ true
      → choose_of stations own target links (code_of way) 1 ring ≡ along_of (other_of way) stations own target 1 ring
  pub neither : (way : Way) → reaches_of way stations own target links ≡ false → reaches_of (other_of way) stations own target links ≡ false
      → choose_of stations own target links (code_of way) 1 ring ≡ no_choice 8
  -- Unprotected: that side regardless.
  pub regardless : (way : Way) → choose_of stations own target links (code_of way) 2 ring ≡ along_of way stations own target 2 ring
  -- Default: the shorter side that reaches (unprotected: the shorter), 8 if none; on a tie right if the own index is lower than the target's, otherwise
  -- left (document 02, A9).
  pub shorter : (way : Way) → distance_of way stations own target < distance_of (other_of way) stations own target → reaches_of way stations own target links ≡ true
      → choose_of stations own target links 3 1 ring ≡ along_of way stations own target 1 ring
  pub only : (way : Way) → reaches_of way stations own target links ≡ true → reaches_of (other_of way) stations own target links ≡ false
      → choose_of stations own target links 3 1 ring ≡ along_of way stations own target 1 ring
  pub tie : distance_of Left stations own target ≡ distance_of Right stations own target → reaches_of (tie_of own target) stations own target links ≡ true
      → choose_of stations own target links 3 1 ring ≡ along_of (tie_of own target) stations own target 1 ring
  pub none : reaches_of Left stations own target links ≡ false → reaches_of Right stations own target links ≡ false
      → choose_of stations own target links 3 1 ring ≡ no_choice 8
  pub unprotected_tie : distance_of Left stations own target ≡ distance_of Right stations own target
      → choose_of stations own target links 3 2 ring ≡ along_of (tie_of own target) stations own target 2 ring
  pub unprotected_shorter : (way : Way) → distance_of way stations own target < distance_of (other_of way) stations own target
      → choose_of stations own target links 3 2 ring ≡ along_of way stations own target 2 ring

-- What is unspecified, and what a side that is taken sends, whatever the other numbers are.
pub record Sends (stations own target links ring : ℕ) : Type 0 where
  -- Unspecified means default and protected.
  pub side : (protection : ℕ) → choose_of stations own target links 0 protection ring ≡ choose_of stations own target links 3 protection ring
  pub protection : (s : ℕ) → choose_of stations own target links s 0 ring ≡ choose_of stations own target links s 1 ring
  -- ttl: the distance on a steering ring, 63 on a wrapping one. Wrap mark: protected on a wrapping ring.
  pub steering : (way : Way) (p : ℕ) → along_of way stations own target p 0 ≡ chosen_as (code_of way) (distance_of way stations own target) (distance_of way stations own target) false
  pub wrapping : (way : Way) → along_of way stations own target 1 1 ≡ chosen_as (code_of way) (distance_of way stations own target) 63 true
  pub wrapping_unprotected : (way : Way) → along_of way stations own target 2 1 ≡ chosen_as (code_of way) (distance_of way stations own target) 63 false

-- ---- all together

pub record Condition2 : Type 0 where
  -- What the small definitions mean through which the rules are said.
  pub names : Names
  pub lent_names : LentNames
  -- Over any calls from a fresh station, each lent what the one before left and none a new start, a shaper's credit equals that of its record: one event per
  -- tick, one send per charge; and every send was permitted at its place. Here over any exported calls on one piece of memory, wrong lengths, refused
  -- arguments and refused starts among them, from a start that was carried out. The record is told from the calls and the numbers that the host got.
  pub credits : (settings mem : List ℕ) → Bytes settings → start_answer settings (take station_length mem) ≡ 0
      → (calls : List Lending) → NoNewStart (started_in settings mem) calls → (w : Which)
      → Recorded (settings_at settings 0) w (credit_of (station_in (memory_through (started_in settings mem) calls)).flow.credits w)
      (record_told w (started_in settings mem) calls)
  -- Calls keep a lent station in range, whatever bytes it came from, new starts among them.
  pub range : (mem : List ℕ) → Bytes (take station_length mem) → length (take station_length mem) ≡ station_length → StationOk (station_in mem)
      → (calls : List Lending) → StationOk (station_in (memory_through mem calls))
  -- What the host is told, and what it finds.
  pub started : (settings xs : List ℕ) → Bytes settings → length settings ≡ settings_length → length xs ≡ station_length → SettingsOk (settings_at settings 0)
      → Begins settings xs
  pub settings : (xs : List ℕ) → SettingsWords xs (settings_at xs 0)
  pub hosts : (xs : List ℕ) (st : Station) → Keeps xs st → Hosts xs st
  pub laid : Lays
  pub choice_told : ChoiceTold
  pub choice_refused : ChoiceRefused
  -- of the two ends of a pair, by default or with nothing specified
  pub pair_told : (stations a b links side protection ring : ℕ) → (side ≡ 0) ⊎ (side ≡ 3)
      → PairTold stations a b (choose_answer stations a b links side protection ring) (choose_answer stations b a links side protection ring)
  pub path_told : PathTold
  pub path_refused_lem : PathRefused
  -- What a call is to a shaper's record, by its answer; and what the host reads off the number that it got.
  pub events : (st : Station) (w : Which) (r : Answer) → Traces st w r
  pub reads_off : (st : Station) (w : Which) (r : ℕ) → ReadsOff st w r
  -- There are settings that start, and so there are stations in range.
  pub some_start : SettingsOk least
  pub starts : (s : Settings) → Starts s
  -- Which part of a station each call looks at and changes; the rules of these parts are below.
  pub calls : (st : Station) → StationOk st → Acts st
  -- Calls keep a station in range, by value too.
  pub kept : (st : Station) → StationOk st → (c : Call) → StationOk (step c st).station
  -- By value too, a refusal is its number and leaves the station; a client's 5, 6 and 7 stand in `Acts`.
  pub lost : (st : Station) → (StationOk st → ⊥) → Lost st
  pub unfit : (st : Station) → StationOk st → Unfit st
  pub listening : (st : Station) (frame : List ℕ) → Listens st frame
  pub ticks : (st : Station) → StationOk st → (a b c : ℕ) → YesNo a × YesNo b × YesNo c → Ticks st a b c
  pub charges : (s : Settings) (c : Credits) → Charges s c
  pub lacks : (s : Settings) (c : Credits) → Lacks s c
  pub entry : Enters
  -- The word of a slot or of the stage holds its frame.
  pub words : (b : Bounds) (x : Frame) → b.mtu ≤ 9216 → FrameOk b x → (frame_of (word_of x) ≡ x) × (word_of x ≡ 0 → ⊥)
  pub selection : (s : Settings) (f : Flow) → Selects s f
  pub counting : (s : Settings) (f : Fair) (hops size : ℕ) → Counts s f hops size
  -- An aging interval: what both methods share; with the aggressive method chosen document 01 holds unaltered; the conservative one, row by row (document 02, A7).
  pub rates : (f : Fair) (s : Settings) (held : ℕ) → Shares f s held
  pub aggressive : (f : Fair) (s : Settings) (held : ℕ) → s.site.method ≡ 0 → Ages f s held
  pub conservative : (f : Fair) (s : Settings) (held : ℕ) → s.site.method ≡ 1 → Rows f s held
  -- Its changes are at least a round trip apart, but for leaving and entering, over any exported calls from any station in range, none a new start.
  pub changes_apart : (mem : List ℕ) → Bytes (take station_length mem) → length (take station_length mem) ≡ station_length → StationOk (station_in mem)
      → (station_in mem).settings.site.method ≡ 1 → (l : Lending) → EndsInterval l mem → (calls : List Lending) → NoNewStart (memory_after l mem) calls → Apart mem l calls
  -- Its localFairRate never exceeds unreservedRate, over any exported calls, none a new start: from a start that was carried out, and from any station in range that is lent.
  -- From a start localFairRate is unreservedRate, by either method, wherever the station does not count as locally congested.
  pub conservative_within : (settings mem : List ℕ) → Bytes settings → start_answer settings (take station_length mem) ≡ 0
      → (calls : List Lending) → NoNewStart (started_in settings mem) calls → (room : List ℕ) → length room ≡ reading_length
      → RateTold room (settings_at settings 0) (memory_through (started_in settings mem) calls)
      × FreeTold room (settings_at settings 0) (memory_through (started_in settings mem) calls)
  pub lent_conservative_within : (mem : List ℕ) (st : Station) → Keeps (take station_length mem) st → (calls : List Lending) → NoNewStart mem calls
      → (room : List ℕ) → length room ≡ reading_length → RateTold room st.settings (memory_through mem calls)
  -- Smoothed rates come to a steady rate, whatever is stored; and so a host sees them, over any calls from any station in range, none a new start.
  pub steady : (coef rate s : ℕ) → Steadies coef rate s
  pub steady_told : (mem room : List ℕ) → Bytes (take station_length mem) → length (take station_length mem) ≡ station_length → StationOk (station_in mem)
      → length room ≡ reading_length → (calls : List Lending) → NoNewStart mem calls → (k : Rate) (rate : ℕ) → SteadyIn room k rate mem calls
      → TellsSteady room mem calls k rate
  -- No hops beyond the ring (document 02, A5): over any exported calls on one piece of memory, wrong lengths, refused arguments and refused starts among them, from a
  -- start that was carried out, the station holds no frame whose hops reach the number of stations, has received none, selects none and tells of none; and so of
  -- any station in range that is lent.
  pub within_ring : (settings mem : List ℕ) → Bytes settings → start_answer settings (take station_length mem) ≡ 0
      → (calls : List Lending) → NoNewStart (started_in settings mem) calls
      → RingTold (settings_at settings 0).site.stations (memory_through (started_in settings mem) calls)
  pub lent_within_ring : (mem : List ℕ) (st : Station) → Keeps (take station_length mem) st → RingTold st.settings.site.stations mem
  -- Local congestion and own rate hold till the next interval, with all else that it decides, the stored numbers and the intervals since a change: no call but that of
  -- an interval changes them.
  pub holding : (st : Station) (c : Call) → (c ≡ history.age → ⊥)
      → ((step c st).station.fair.decided ≡ st.fair.decided) × ((step c st).station.fair.smoothed ≡ st.fair.smoothed) × ((step c st).station.fair.since ≡ st.fair.since)
  pub telling : (f : Fair) (s : Settings) → Tells f s
  pub hearing : (f : Fair) (a : Advert) → Hears f a
  pub reading : (frame : List ℕ) → Reads frame
  pub writing : (a : Advert) → Writes a
  pub sending : (stations own target links ring : ℕ) → Sends stations own target links ring
  pub choice : (stations own target links ring : ℕ) → Placed stations own target links → ring ≤ 1 → Chooses stations own target links ring
  -- Ties should not split a pair (document 02, A9): by default, or with nothing specified, the links from a to b are those from b to a, reversed.
  pub pairs : (stations a b links side protection ring : ℕ) → (side ≡ 0) ⊎ (side ≡ 3)
      → Together stations a b (choose_of stations a b links side protection ring) (choose_of stations b a links side protection ring)
  pub links : (stations : ℕ) → Joins stations
  pub reach : (stations own target links : ℕ) → Placed stations own target links → Reaches stations own target links
  pub walk : (stations links target : ℕ) (home : Way) → Wraps stations links target home
  -- The answer holds the hops moved, equal to the path's length, from the station on with 2 × stations hops left.
  pub path : (stations own target links home : ℕ) → Placed stations own target links → (home ≡ 1) ⊎ (home ≡ 2)
      → let course = course_of stations links target (side_of home) (2 * stations) at_home own in
      path_of stations own target links home ≡ journey course.delivered (length course.links)
  -- Whether delivery or the hop limit is tested first cannot be seen: one hop more delivers no other frame, on either ringlet,
  -- and on the home side a delivered path is shorter than the limit.
  pub early : (stations own target links : ℕ) (home : Way) → Placed stations own target links
      → (course_of stations links target home (2 * stations) at_home own).delivered ≡ true
      → length (course_of stations links target home (2 * stations) at_home own).links < 2 * stations
  pub limit_unseen : (stations own target links : ℕ) (home : Way) → Placed stations own target links
      → (course_of stations links target home (2 * stations + 1) at_home own).delivered ≡ (course_of stations links target home (2 * stations) at_home own).delivered
  -- Reading a written frame, with the same settings but an address it doesn't bear, gives back its ringlet bit, ttl, address and rate.
  pub frames : (s : Settings) (f : Fair) → SettingsOk s → FairOk s f → s.address.low < 4294967296 → f.received.low < 4294967296 → ReadBack s f
