-- A few stations, their numbers worked out by hand from document 01 and here computed. Assumes nothing.
use Rattle.shaper.specs.Refused.{number_said, afterwards}
use Prim.Native.Nat.{ℕ}
use mathlib.Core.List.{List, [], ◌∷◌, ◌++◌}
use mathlib.Core.Path.{◌≡◌, refl}
use Rattle.decide.specs.Refusal.{first, first_of, refused_or}
use Rattle.decide.specs.Test.{test}
use Rattle.wire.specs.Wire.{be}
use Rattle.rates.specs.Rates.{part_of, smoothed_of, shown_of, aged_of, ramped_of, allowance_of, own_rate_of, counted_of, share_of}
use Rattle.queue.specs.Queue.{empty_queue, frames_from, sizes, space_of}
use Rattle.queue.specs.Queue as queue
use Rattle.queue.specs.Range.{occupied, slot_ok, each_from, queue_ok}
use Rattle.settings.specs.declared.Bucket.{Bucket}
use Rattle.settings.specs.declared.Settings.{Settings}
use Rattle.settings.specs.Range.{settings_ok}
use Rattle.shaper.specs.declared.Event.TheVariants.{Waiting, Send}
use Rattle.credits.specs.declared.Which.TheVariants.{C, D}
use Rattle.credits.specs.Way.{way_of}
use Rattle.flow.specs.Range.{flow_ok}
use Rattle.flow.specs.Tick as flow
use Rattle.flow.specs.Offer.{queue_for}
use Rattle.selection.specs.Select as selection
use Rattle.fair.specs.Range.{fair_ok}
use Rattle.fair.specs.Count.{raised_of}
use Rattle.fair.specs.Methods.{aggressive_of, adjust_of}
use Rattle.fair.specs.Age.{allowed_of, allowedc_of}
use Rattle.heard.specs.Frame.{received_of}
use Rattle.fair.specs.Advertise.{told_of}
use Rattle.station.specs.declared.Station.{Station}
use Rattle.station.specs.Range.{station_ok}
use Rattle.station.specs.Calls.{fresh_of}
use Rattle.station.specs.Hear.{hear_of, advert_said, tell_of}
use Rattle.station.specs.History.{Call, tick, offer_client, offer_transit, select, age, step, after, record_of}

-- mtu 64; each shaper loLimit 100, hiLimit 300, amount 50; 10 ticks per interval, unreservedRate 1,999, default coefficients; 8 stations
abbrev pub settings : Settings
settings =
    let b : Bucket = record { lo = 100; hi = 300; amount = 50 } in
    record {
      address = record { high = 1; low = 2 };
      ringlet = 0;
      mtu = 64;
      shapers = record { m = b; a = b; b = b; c = b; d = b };
      queues = record { control = 100; primary = 100; secondary = 128; threshold = 64 };
      fairness = record { weight = 1; unit = 1; ticks = 10; unreserved = 1999; age = 4; lp = 64; ramp = 64 };
      site = record { stations = 8; method = 0; trip = 40; down = 64 };
    }

-- C traffic waits, a client gives a frame of class C of 64 bytes with so many hops to go, and a frame goes
abbrev pub sent : ℕ → List Call
sent hops = tick 0 0 1 ∷ offer_client 2 64 hops ∷ select ∷ []

-- an interval ends before that, and C traffic waits again
abbrev pub busy : List Call
busy = age ∷ sent 7 ++ (tick 0 0 1 ∷ [])

-- the fairness frame of 00-03-00-00-00-04 on the other ringlet, with this ttl and rate 125, and a fresh station that heard it
abbrev pub choke : ℕ → List ℕ
choke ttl = ttl ∷ 160 ∷ 0 ∷ 3 ∷ 0 ∷ 0 ∷ 0 ∷ 4 ∷ 0 ∷ 0 ∷ 0 ∷ 125 ∷ []

abbrev pub choked : ℕ → Station
choked ttl = afterwards (fresh_of settings) (hear_of (fresh_of settings) (choke ttl))

-- two transit frames of this class, 80 bytes together, and then an interval ends
abbrev pub loaded : ℕ → List Call
loaded class = offer_transit class 64 3 0 ∷ offer_transit class 16 3 0 ∷ age ∷ []

pub record Examples : Type 0 where
  -- Shares are floor(1,999 / (4 × 10)) = 49, less than C's setting: 100 + 49 − 64 = 85; D has 100 + 50 − 64 = 86. The others wait for nothing: 150 is cut to 100.
  pub sent_credits : (after (fresh_of settings) (sent 7)).flow.credits ≡ record { m = 100; a = 100; b = 100; c = 85; d = 86 }
  pub sent_c : record_of C (fresh_of settings) (sent 7) ≡ Waiting 49 ∷ Send 64 ∷ []
  pub sent_d : record_of D (fresh_of settings) (sent 7) ≡ Waiting 50 ∷ Send 64 ∷ []
  -- A tick in which only the stage's frame waits: D has 86 + 50; C's 85 + 49 is cut to loLimit.
  pub stage_waits : (after (fresh_of settings) (tick 0 0 1 ∷ offer_client 2 64 7 ∷ tick 0 0 0 ∷ [])).flow.credits ≡ record { m = 100; a = 100; b = 100; c = 100; d = 136 }
  -- ttl 250: hopsToCongestion is 256 − 250 = 6. A frame with 6 hops counts for addRate alone, one with 7 for the Congested twin too.
  pub hops_6 : (after (choked 250) (sent 6)).fair.counters ≡ record { add = 64; fw = 0; addc = 0; fwc = 0 }
  pub hops_7 : (after (choked 250) (sent 7)).fair.counters ≡ record { add = 64; fw = 0; addc = 64; fwc = 0 }
  -- After an interval allowedRateCongested is 125 × 1 × 1, and that frame went. One more of 61 bytes makes 64 + 61 = 125, which is not passed; one of 62 does.
  pub size_61 : (step (offer_client 2 61 7) (after (choked 250) busy)).answer.number ≡ 0
  pub size_62 : (step (offer_client 2 62 7) (after (choked 250) busy)).answer.number ≡ 7
  -- Low threshold 64: 80 bytes of class B, in the secondary queue, make the station locally congested; as many of class A, in the primary queue, do not.
  pub loaded_b : (after (fresh_of settings) (loaded 1)).fair.decided.congested ≡ 1
  pub loaded_a : (after (fresh_of settings) (loaded 0)).fair.decided.congested ≡ 0
  -- A received frame is passed on with its ttl less 1, but for 7 hops, which is ttl 249: then FULL_RATE, with own address and ttl 255.
  pub told_250 : advert_said (tell_of (choked 250)) ≡ record { ringlet = 1; ttl = 249; high = 3; low = 4; rate = 125 }
  pub told_249 : advert_said (tell_of (choked 249)) ≡ record { ringlet = 1; ttl = 255; high = 1; low = 2; rate = 65535 }
  -- A client frame with 7 hops to go is looked at further (6: no credit yet), one with 8 is 13, one with 64 is 3; so it is with transit frames.
  pub client_7 : (step (offer_client 2 64 7) (fresh_of settings)).answer.number ≡ 6
  pub client_8 : (step (offer_client 2 64 8) (fresh_of settings)).answer.number ≡ 13
  pub client_64 : (step (offer_client 2 64 64) (fresh_of settings)).answer.number ≡ 3
  pub transit_7 : (step (offer_transit 2 64 7 1) (fresh_of settings)).answer.number ≡ 0
  pub transit_8 : (step (offer_transit 2 64 8 1) (fresh_of settings)).answer.number ≡ 13
  pub transit_64 : (step (offer_transit 2 64 64 1) (fresh_of settings)).answer.number ≡ 3
  -- Congestion 8 hops away, ttl 248, and forty, ttl 216, is 13, and 64 hops away, ttl 192, is 3. What was known before stays, and frames count by it.
  pub heard_8 : number_said (hear_of (choked 250) (choke 248)) ≡ 13
  pub heard_40 : number_said (hear_of (choked 250) (choke 216)) ≡ 13
  pub heard_64 : number_said (hear_of (choked 250) (choke 192)) ≡ 3
  pub known_40 : (afterwards (choked 250) (hear_of (choked 250) (choke 216))).fair.received.ttl ≡ 250
  pub counted_40 : (after (afterwards (choked 250) (hear_of (choked 250) (choke 216))) (sent 7)).fair.counters ≡ record { add = 64; fw = 0; addc = 64; fwc = 0 }

pub examples : Examples
unfolding test station_ok settings_ok flow_ok fair_ok queue_ok each_from slot_ok occupied frames_from sizes first_of first refused_or flow.start_of flow.tick_of queue_for way_of selection.select_of empty_queue space_of queue.first_frame queue.pushed queue.taken own_rate_of share_of counted_of raised_of be received_of told_of aggressive_of adjust_of allowed_of allowedc_of part_of smoothed_of shown_of aged_of ramped_of allowance_of
examples =
    record {
      sent_credits = refl;
      sent_c = refl;
      sent_d = refl;
      stage_waits = refl;
      hops_6 = refl;
      hops_7 = refl;
      size_61 = refl;
      size_62 = refl;
      loaded_b = refl;
      loaded_a = refl;
      told_250 = refl;
      told_249 = refl;
      client_7 = refl;
      client_8 = refl;
      client_64 = refl;
      transit_7 = refl;
      transit_8 = refl;
      transit_64 = refl;
      heard_8 = refl;
      heard_40 = refl;
      heard_64 = refl;
      known_40 = refl;
      counted_40 = refl;
    }
