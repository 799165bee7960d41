-- Rules of document 01 for shapers, frames in, counting and fairness frames, row by row, for the second condition.
-- Assumes nothing.
use Rattle.std.specs.Prelude.{ℕ, ◌+◌, ◌*◌, ◌-◌, ◌/◌, ◌%◌, ◌≤◌, ◌<◌, min, max, true, false, ◌&&◌, List, [], ◌∷◌, ◌⊎◌, ◌↔◌, ◌≡◌, eqb, length, Ok, Err}
use Rattle.decide.specs.Test.{test}
use Rattle.settings.specs.declared.Settings.{Settings}
use Rattle.credits.specs.declared.Credits.{Credits}
use Rattle.credits.specs.declared.Which.{Which}
use Rattle.credits.specs.declared.Which.TheVariants.{M, A, B, C, D}
use Rattle.credits.specs.declared.Way.TheVariants.{ClassA, ClassB, Excess}
use Rattle.credits.specs.Which.{bucket_of, credit_of, permits_of, permits_all, member, sends, fed}
use Rattle.credits.specs.Short.{short_of, short_all}
use Rattle.credits.specs.Way.{way_of, needs_of, mark_of}
use Rattle.flow.specs.declared.Line.TheVariants.{Primary, Secondary}
use Rattle.flow.specs.Tick.{waits}
use Rattle.flow.specs.Offer.{queue_for}
use Rattle.flow.specs.Frames.{Holding, Staged}
use Rattle.heard.specs.declared.Received.{Received}
use Rattle.fair.specs.declared.Fair.{Fair}
use Rattle.wire.specs.Wire.{be}
use Rattle.advert.specs.declared.Advert.{Advert}
use Rattle.decide.specs.Number.{refusal_of}
use Rattle.advert.specs.Frame.{whole, advert_in, parsed_of, advert_bytes}
use Rattle.rates.specs.Rates.{counted_of}
use Rattle.fair.specs.Count.{beyond, count_of, with_counters}
use Rattle.heard.specs.Frame.{own_frame}
use Rattle.fair.specs.Advertise.{passed_on_of, with_received, told_of, heard_of}
use Rattle.station.specs.declared.Station.{Station}
use Rattle.shaper.specs.Refused.{afterwards}
use Rattle.station.specs.Calls.{tick_of, amount_for}

-- ---- shapers: a tick of a station in range

pub record Ticks (st : Station) (a b c : ℕ) : Type 0 where
  -- The host's tick says whether A, B, C traffic waits. M waits when the control queue holds a frame;
  pub m_waits : (waits st.flow (eqb a 1) (eqb b 1) (eqb c 1) M ≡ true) ↔ Holding st.flow.control
  pub a_waits : (waits st.flow (eqb a 1) (eqb b 1) (eqb c 1) A ≡ true) ↔ (eqb a 1 ≡ true)
  pub b_waits : (waits st.flow (eqb a 1) (eqb b 1) (eqb c 1) B ≡ true) ↔ (eqb b 1 ≡ true)
  -- C when B or C waits;
  pub c_waits : (waits st.flow (eqb a 1) (eqb b 1) (eqb c 1) C ≡ true) ↔ ((eqb b 1 ≡ true) ⊎ (eqb c 1 ≡ true))
  -- D when B or C waits or the stage or secondary queue holds a frame.
  pub d_waits : (waits st.flow (eqb a 1) (eqb b 1) (eqb c 1) D ≡ true)
      ↔ (((eqb b 1 ≡ true) ⊎ (eqb c 1 ≡ true)) ⊎ (Staged st.flow ⊎ Holding st.flow.secondary))
  -- C's amount is the smaller of its setting and floor(allowedRate / (ageCoef × ticks per interval)); every other shaper's is its setting.
  pub c_amount : amount_for st C ≡ min st.settings.shapers.c.amount (st.fair.decided.allowed / (st.settings.fairness.age * st.settings.fairness.ticks))
  pub set_amount : (w : Which) → (w ≡ C → ⊥) → amount_for st w ≡ (bucket_of st.settings w).amount
  -- A tick adds the amount; while traffic waits the sum is cut to hiLimit, otherwise to loLimit.
  pub waiting : (w : Which) → waits st.flow (eqb a 1) (eqb b 1) (eqb c 1) w ≡ true
      → credit_of (afterwards st (tick_of st a b c)).flow.credits w ≡ min (credit_of st.flow.credits w + amount_for st w) (bucket_of st.settings w).hi
  pub idle : (w : Which) → waits st.flow (eqb a 1) (eqb b 1) (eqb c 1) w ≡ false
      → credit_of (afterwards st (tick_of st a b c)).flow.credits w ≡ min (credit_of st.flow.credits w + amount_for st w) (bucket_of st.settings w).lo

-- ---- shapers: a send

pub record Charges (s : Settings) (c : Credits) : Type 0 where
  -- A send is permitted exactly when credit > loLimit,
  pub permitted : (w : Which) → (permits_of s c w ≡ true) ↔ ((bucket_of s w).lo < credit_of c w)
  -- by each shaper that is needed;
  pub none_needed : permits_all s c [] ≡ true
  pub needed : (w : Which) (ws : List Which) → permits_all s c (w ∷ ws) ≡ (permits_of s c w && permits_all s c ws)
  -- then the size is taken off each that is charged, and no other.
  pub charged : (ws : List Which) (size : ℕ) (w : Which) → member w ws ≡ true → credit_of (fed s c (sends ws size)) w ≡ credit_of c w - size
  pub spared : (ws : List Which) (size : ℕ) (w : Which) → member w ws ≡ false → credit_of (fed s c (sends ws size)) w ≡ credit_of c w

-- How far short.
pub record Lacks (s : Settings) (c : Credits) : Type 0 where
  -- A shaper's shortfall is the least amount whose addition would make the credit exceed loLimit:
  pub least : (w : Which) (x : ℕ) → (short_of s c w ≤ x) ↔ ((bucket_of s w).lo < credit_of c w + x)
  -- 0 exactly where it permits.
  pub nothing : (w : Which) → (permits_of s c w ≡ true) ↔ (short_of s c w ≡ 0)
  -- Where two shapers are needed, the larger shortfall.
  pub one : (w : Which) → short_all s c (w ∷ []) ≡ short_of s c w
  pub two : (v w : Which) → short_all s c (v ∷ w ∷ []) ≡ max (short_of s c v) (short_of s c w)
  -- Client A needs A. For client B, that of the excess attempt, which needs C and D; client C is excess.
  pub client_a : short_all s c (needs_of (way_of s c 0)) ≡ short_of s c A
  pub client_b : permits_all s c (needs_of (way_of s c 1)) ≡ false → short_all s c (needs_of (way_of s c 1)) ≡ max (short_of s c C) (short_of s c D)
  pub client_c : short_all s c (needs_of (way_of s c 2)) ≡ max (short_of s c C) (short_of s c D)

-- ---- frames in

pub record Enters : Type 0 where
  -- Transit A goes to the primary queue, B and C to the secondary.
  pub transit_a : (s : Settings) → queue_for s 0 ≡ Primary
  pub transit_b : (s : Settings) → queue_for s 1 ≡ Secondary
  pub transit_c : (s : Settings) → queue_for s 2 ≡ Secondary
  -- Client A needs and charges A. Client B needs and charges B and D; failing that it is tried as excess. Excess B and C need C and D, charge both, and are
  -- marked eligible.
  pub client_a : (s : Settings) (c : Credits) → way_of s c 0 ≡ ClassA
  pub client_b : (s : Settings) (c : Credits) → permits_all s c (B ∷ D ∷ []) ≡ true → way_of s c 1 ≡ ClassB
  pub client_b_failing : (s : Settings) (c : Credits) → permits_all s c (B ∷ D ∷ []) ≡ false → way_of s c 1 ≡ Excess
  pub client_c : (s : Settings) (c : Credits) → way_of s c 2 ≡ Excess
  pub needs_a : needs_of ClassA ≡ A ∷ []
  pub needs_b : needs_of ClassB ≡ B ∷ D ∷ []
  pub needs_excess : needs_of Excess ≡ C ∷ D ∷ []
  pub marks : (mark_of ClassA ≡ 0) × (mark_of ClassB ≡ 0) × (mark_of Excess ≡ 1)

-- ---- counting a selected frame: origin 4 is the stage, 3 the secondary queue

pub record Counts (s : Settings) (f : Fair) (hops size : ℕ) : Type 0 where
  -- An eligible stage frame adds its size to addRate, a secondary one to fwRate; also to the Congested twin if downstream congested and hops >
  -- hopsToCongestion.
  pub twin : (test (beyond f hops) ≡ true) ↔ ((f.received.downstream ≡ 1) × (256 - f.received.ttl < hops))
  pub stage_twin : test (beyond f hops) ≡ true → count_of s f 4 1 hops size
      ≡ with_counters (record { add = counted_of f.counters.add size; fw = f.counters.fw; addc = counted_of f.counters.addc size; fwc = f.counters.fwc }) f
  pub stage : test (beyond f hops) ≡ false → count_of s f 4 1 hops size
      ≡ with_counters (record { add = counted_of f.counters.add size; fw = f.counters.fw; addc = f.counters.addc; fwc = f.counters.fwc }) f
  pub secondary_twin : test (beyond f hops) ≡ true → count_of s f 3 1 hops size
      ≡ with_counters (record { add = f.counters.add; fw = counted_of f.counters.fw size; addc = f.counters.addc; fwc = counted_of f.counters.fwc size }) f
  pub secondary : test (beyond f hops) ≡ false → count_of s f 3 1 hops size
      ≡ with_counters (record { add = f.counters.add; fw = counted_of f.counters.fw size; addc = f.counters.addc; fwc = f.counters.fwc }) f
  pub not_eligible : (origin mark : ℕ) → (mark ≡ 1 → ⊥) → count_of s f origin mark hops size ≡ f
  pub elsewhere : (origin mark : ℕ) → (origin ≡ 4 → ⊥) → (origin ≡ 3 → ⊥) → count_of s f origin mark hops size ≡ f
  -- Counters stop at 2,147,483,647.
  pub stop : (counter : ℕ) → counted_of counter size ≡ min (counter + size) 2147483647

-- ---- fairness frames

pub record Tells (f : Fair) (s : Settings) : Type 0 where
  -- Advertise 65,535 (FULL_RATE) when not congested either way;
  pub full : f.decided.congested ≡ 0 → f.received.downstream ≡ 0 → told_of f s ≡ own_frame s 65535
  -- own rate when only locally congested, or both and own ≤ received;
  pub own : f.decided.congested ≡ 1 → f.received.downstream ≡ 0 → told_of f s ≡ own_frame s f.decided.own
  pub both : f.decided.congested ≡ 1 → f.received.downstream ≡ 1 → f.decided.own ≤ f.received.rate → told_of f s ≡ own_frame s f.decided.own
  -- Own and FULL frames use own address and ttl 255, and bear the other ringlet's bit;
  pub own_frame_lem : (rate : ℕ) → own_frame s rate ≡ record { ringlet = 1 - s.ringlet; ttl = 255; high = s.address.high; low = s.address.low; rate = rate }
  -- else the received rate, its address, ttl less 1, but FULL_RATE when the received hops, 256 − ttl, are the number of stations less 1.
  pub passed_on : passed_on_of f s
      ≡ record { ringlet = 1 - s.ringlet; ttl = f.received.ttl - 1; high = f.received.high; low = f.received.low; rate = f.received.rate }
  pub received : (f.received.downstream ≡ 1) × ((f.decided.congested ≡ 0) ⊎ (f.received.rate < f.decided.own)) → (256 - f.received.ttl ≡ s.site.stations - 1 → ⊥) → told_of f s ≡ passed_on_of f s
  pub last : (f.received.downstream ≡ 1) × ((f.decided.congested ≡ 0) ⊎ (f.received.rate < f.decided.own)) → 256 - f.received.ttl ≡ s.site.stations - 1 → told_of f s ≡ own_frame s 65535

-- The twelve bytes: ttl; base (bit 7 ringlet, bits 5 to 4 frame type, 2 = fairness); address 6; header 2, top three bits 0 for single choke; rate 2.
-- Big-endian.
pub record Reads (xs : List ℕ) : Type 0 where
  pub whole_exactly : (test (whole xs) ≡ true) ↔ ((length xs ≡ 12) × ((be 1 xs 1 / 16 % 4 ≡ 2) × (be 2 xs 8 / 8192 ≡ 0)))
  pub ttl : (advert_in xs).ttl ≡ be 1 xs 0
  pub ringlet : (advert_in xs).ringlet ≡ be 1 xs 1 / 128
  pub address : ((advert_in xs).high ≡ be 6 xs 2 / 4294967296) × ((advert_in xs).low ≡ be 6 xs 2 % 4294967296)
  pub rate : (advert_in xs).rate ≡ be 2 xs 10
  -- Another length, type or header kind: 2.
  pub parsed : test (whole xs) ≡ true → parsed_of xs ≡ Ok (advert_in xs)
  pub not_parsed : test (whole xs) ≡ false → parsed_of xs ≡ Err (refusal_of 2)

pub record Writes (a : Advert) : Type 0 where
  -- A written frame is read so,
  pub back : a.ringlet < 2 → a.ttl < 256 → a.high < 65536 → a.low < 4294967296 → a.rate < 65536
      → (test (whole (advert_bytes a)) ≡ true) × (advert_in (advert_bytes a) ≡ a)
  -- and other bits are written 0.
  pub bare : (be 1 (advert_bytes a) 1 / 64 % 2 ≡ 0) × (be 1 (advert_bytes a) 1 % 16 ≡ 0) × (be 2 (advert_bytes a) 8 % 8192 ≡ 0)

pub record Hears (f : Fair) (a : Advert) : Type 0 where
  -- A rate of 65,535 clears downstream congestion, with received ttl 255, received address and rate 0; others set it.
  pub clears : a.rate ≡ 65535 → heard_of f a ≡ with_received (record { downstream = 0; ttl = 255; high = 0; low = 0; rate = 0 }) f
  pub sets : (a.rate ≡ 65535 → ⊥)
      → heard_of f a ≡ with_received (record { downstream = 1; ttl = a.ttl; high = a.high; low = a.low; rate = a.rate }) f
  -- Nothing else changes.
  pub keeps : (r : Received) → with_received r f ≡ record { counters = f.counters; smoothed = f.smoothed; decided = f.decided; since = f.since; received = r }
