-- One station, its numbers worked out by hand from documents 01 and 02 and here computed. Assumes nothing.
use Prim.Native.Nat.{ℕ}
use mathlib.Core.Bool.{true, false}
use mathlib.Core.Path.{◌≡◌, refl}
use Rattle.decide.specs.Test.{test}
use Rattle.rates.specs.Rates.{part_of, smoothed_of, shown_of, shown_ok_of, aged_of, ramped_of, reduced_of, allowance_of, own_rate_of, counted_of}
use Rattle.advert.specs.declared.Advert.{Advert}
use Rattle.settings.specs.declared.Bucket.{Bucket}
use Rattle.settings.specs.declared.Settings.{Settings}
use Rattle.heard.specs.Frame.{received_of}
use Rattle.fair.specs.declared.Adjusted.{Adjusted}
use Rattle.fair.specs.declared.Fair.{Fair}
use Rattle.fair.specs.Range.{fair_ok}
use Rattle.fair.specs.Count.{beyond, over, raised_of, count_of}
use Rattle.fair.specs.Methods.{aggressive_of, row_of, row_gives, adjust_of}
use Rattle.fair.specs.Age.{allowed_of, allowedc_of, age_of}
use Rattle.fair.specs.Advertise.{told_of, heard_of}

-- ringlet 0, address 00-01-00-00-00-02, low threshold 1,000, weight 2, rate unit 4, unreservedRate 1,000,000, default coefficients, so many stations; this
-- method, a round trip of 3 intervals, rampDn 16
abbrev pub settings_by : (stations method : ℕ) → Settings
settings_by stations method =
    let b : Bucket = record { lo = 2000; hi = 9000; amount = 300 } in
    record {
      address = record { high = 1; low = 2 };
      ringlet = 0;
      mtu = 1500;
      shapers = record { m = b; a = b; b = b; c = b; d = b };
      queues = record { control = 100000; primary = 100000; secondary = 200000; threshold = 1000 };
      fairness = record { weight = 2; unit = 4; ticks = 100; unreserved = 1000000; age = 4; lp = 64; ramp = 64 };
      site = record { stations = stations; method = method; trip = 3; down = 16 };
    }

-- with the aggressive method
abbrev pub settings_on : ℕ → Settings
settings_on stations = settings_by stations 0

-- the largest ring
abbrev pub settings : Settings
settings = settings_on 63

-- congested both ways, as told by 00-03-00-00-00-04 with this ttl and rate 125, at this own rate and localFairRate, so many intervals after its change; of
-- lpAddRate 2,400 is stored
abbrev pub state_at : (own ttl local since : ℕ) → Fair
state_at own ttl local since = record {
  counters = record { add = 6400; fw = 100; addc = 936; fwc = 2147483600 };
  smoothed = record { add = 2400; fw = 0; addc = 0; fwc = 0 };
  decided = record { local = local; allowed = 136; allowedc = 1000; own = own; congested = 1 };
  since = since;
  received = record { downstream = 1; ttl = ttl; high = 3; low = 4; rate = 125 };
}

-- at localFairRate 136, which changed 2 intervals ago: the third is a round trip behind it
abbrev pub state : (own ttl : ℕ) → Fair
state own ttl = state_at own ttl 136 2

-- The conservative method, from local congestion, localFairRate and the intervals since its change: with so much stored of lpAddRate and so many bytes in the
-- secondary queue.
abbrev pub cautious : (congested local since stored held : ℕ) → Adjusted
cautious congested local since stored held =
    adjust_of (settings_by 63 1) (record { congested = congested; local = local; since = since }) (record { add = stored; fw = 0; addc = 0; fwc = 0 }) held

abbrev pub adjusted : (congested local since : ℕ) → Adjusted
adjusted congested local since = record { congested = congested; local = local; since = since }

abbrev pub frame : (ttl high low rate : ℕ) → Advert
frame ttl high low rate = record { ringlet = 1; ttl = ttl; high = high; low = low; rate = rate }

pub record Examples : Type 0 where
  -- of 63 stations a received ttl of 194 tells of 62 hops, and one of 193 is out of range; of 6 it is 251, 5 hops, and 250
  pub ttl_194 : test (fair_ok settings (state 17 194)) ≡ true
  pub ttl_193 : test (fair_ok settings (state 17 193)) ≡ false
  pub six_251 : test (fair_ok (settings_on 6) (state 17 251)) ≡ true
  pub six_250 : test (fair_ok (settings_on 6) (state 17 250)) ≡ false
  -- ttl 250: the congested station is 6 hops away. 936 + 64 does not pass 1,000, 936 + 65 does.
  pub hops_6 : test (beyond (state 17 250) 6) ≡ false
  pub hops_7 : test (beyond (state 17 250) 7) ≡ true
  pub size_64 : test (over (state 17 250) 64 7) ≡ false
  pub size_65 : test (over (state 17 250) 65 7) ≡ true
  -- a stage frame of 64 bytes, and a secondary one, whose twin stops at its largest
  pub stage : (count_of settings (state 17 250) 4 1 7 64).counters ≡ record { add = 6464; fw = 100; addc = 1000; fwc = 2147483600 }
  pub secondary : (count_of settings (state 17 250) 3 1 7 64).counters ≡ record { add = 6400; fw = 164; addc = 936; fwc = 2147483647 }
  -- at most 2,147,483,647 is shown of 64 × 2,147,483,648 − 1, and one more of the next number
  pub stored_last : test (shown_ok_of 64 137438953471) ≡ true
  pub stored_next : test (shown_ok_of 64 137438953472) ≡ false
  -- 1,001 bytes in the secondary queue: 2,400 shows 37, so it becomes 2,400 − 37 + 6,400; lpAddRate is floor(8,763 / 64) = 136, own rate floor(136 / 8) = 17
  pub full_smoothed : (age_of (state 9 250) settings 1001).smoothed.add ≡ 8763
  pub full_counter : (age_of (state 9 250) settings 1001).counters.add ≡ 4800
  pub full_congested : (age_of (state 9 250) settings 1001).decided.congested ≡ 1
  pub full_allowed : (age_of (state 9 250) settings 1001).decided.allowed ≡ 136
  pub full_own : (age_of (state 9 250) settings 1001).decided.own ≡ 17
  -- 125 × 2 × 4
  pub full_allowedc : (age_of (state 9 250) settings 1001).decided.allowedc ≡ 1000
  -- 1,000 bytes: not congested; 136 + floor(999,864 / 64); own rate is cut
  pub room_congested : (age_of (state 9 250) settings 1000).decided.congested ≡ 0
  pub room_allowed : (age_of (state 9 250) settings 1000).decided.allowed ≡ 15758
  pub room_own : (age_of (state 9 250) settings 1000).decided.own ≡ 65534
  -- ---- the conservative method: a round trip of 3 intervals, rampDn 16, rampUp 64

  -- entry at lpAddRate, floor(8,763 / 64) = 136, and cut to unreservedRate where it is 2,000,000; without congestion nothing changes
  pub entry : cautious 0 1000000 2 8763 1001 ≡ adjusted 1 136 0
  pub entry_cut : cautious 0 1000000 2 128000000 1001 ≡ adjusted 1 1000000 0
  pub rest : cautious 0 1000000 2 8763 1000 ≡ adjusted 0 1000000 2
  -- the third interval after a change steps down by floor(136 / 16), the second does not; 15 has no 16th part, and its step of 0 is a change
  pub lowered : cautious 1 136 2 8763 1001 ≡ adjusted 1 128 0
  pub not_lowered : cautious 1 136 1 8763 1001 ≡ adjusted 1 136 2
  pub lowered_by_0 : cautious 1 15 2 8763 1001 ≡ adjusted 1 15 0
  -- the test is false: up by floor(999,864 / 64), not before a round trip has passed; 63 below unreservedRate it leaves at once, 64 below it does not
  pub raised : cautious 1 136 2 8763 1000 ≡ adjusted 1 15758 0
  pub not_raised : cautious 1 136 1 8763 1000 ≡ adjusted 1 136 2
  pub left : cautious 1 999937 0 8763 1000 ≡ adjusted 0 1000000 0
  pub not_left : cautious 1 999936 0 8763 1000 ≡ adjusted 1 999936 1
  pub raised_by_1 : cautious 1 999936 2 8763 1000 ≡ adjusted 1 999937 0
  -- until it leaves it counts as locally congested: allowedRate is localFairRate, own rate floor(15,758 / 8), and once nobody downstream is congested it tells its own
  -- rate, where the aggressive method tells FULL_RATE
  pub still_congested : (age_of (state 9 250) (settings_by 63 1) 1000).decided.congested ≡ 1
  pub still_allowed : (age_of (state 9 250) (settings_by 63 1) 1000).decided.allowed ≡ 15758
  pub still_own : (age_of (state 9 250) (settings_by 63 1) 1000).decided.own ≡ 1969
  pub still_told : told_of (age_of (heard_of (state 9 250) (frame 200 5 6 65535)) (settings_by 63 1) 1000) (settings_by 63 1) ≡ frame 255 1 2 1969
  pub room_told : told_of (age_of (heard_of (state 9 250) (frame 200 5 6 65535)) settings 1000) settings ≡ frame 255 1 2 65535
  -- the range: fewer intervals than a round trip since a change, by either method; the conservative localFairRate at most unreservedRate
  pub since_2 : test (fair_ok settings (state_at 17 250 136 2)) ≡ true
  pub since_3 : test (fair_ok settings (state_at 17 250 136 3)) ≡ false
  pub since_2_by : test (fair_ok (settings_by 63 1) (state_at 17 250 136 2)) ≡ true
  pub since_3_by : test (fair_ok (settings_by 63 1) (state_at 17 250 136 3)) ≡ false
  pub at_unreserved : test (fair_ok (settings_by 63 1) (state_at 17 250 1000000 2)) ≡ true
  pub above_unreserved : test (fair_ok (settings_by 63 1) (state_at 17 250 1000001 2)) ≡ false
  pub above_aggressive : test (fair_ok settings (state_at 17 250 1000001 2)) ≡ true
  -- ---- what is told and heard

  -- own 125 ≤ received 125; own 126 > received 125, whose frame goes on unless its hops are the stations less 1: 62 of 63, 5 of 6
  pub own_told : told_of (state 125 250) settings ≡ frame 255 1 2 125
  pub received_told : told_of (state 126 250) settings ≡ frame 249 3 4 125
  pub last_told : told_of (state 126 194) settings ≡ frame 255 1 2 65535
  pub six_told : told_of (state 126 252) (settings_on 6) ≡ frame 251 3 4 125
  pub six_last : told_of (state 126 251) (settings_on 6) ≡ frame 255 1 2 65535
  -- a rate of 65,535 clears what was received
  pub cleared : (heard_of (state 17 250) (frame 200 5 6 65535)).received.downstream ≡ 0
  pub cleared_ttl : (heard_of (state 17 250) (frame 200 5 6 65535)).received.ttl ≡ 255
  pub set_ttl : (heard_of (state 17 250) (frame 200 5 6 65534)).received.ttl ≡ 200

pub examples : Examples
unfolding test fair_ok raised_of aggressive_of row_of row_gives adjust_of allowed_of allowedc_of told_of received_of part_of smoothed_of shown_of aged_of ramped_of reduced_of allowance_of own_rate_of counted_of
examples =
    record {
      ttl_194 = refl;
      ttl_193 = refl;
      six_251 = refl;
      six_250 = refl;
      hops_6 = refl;
      hops_7 = refl;
      size_64 = refl;
      size_65 = refl;
      stage = refl;
      secondary = refl;
      stored_last = refl;
      stored_next = refl;
      full_smoothed = refl;
      full_counter = refl;
      full_congested = refl;
      full_allowed = refl;
      full_own = refl;
      full_allowedc = refl;
      room_congested = refl;
      room_allowed = refl;
      room_own = refl;
      entry = refl;
      entry_cut = refl;
      rest = refl;
      lowered = refl;
      not_lowered = refl;
      lowered_by_0 = refl;
      raised = refl;
      not_raised = refl;
      left = refl;
      not_left = refl;
      raised_by_1 = refl;
      still_congested = refl;
      still_allowed = refl;
      still_own = refl;
      still_told = refl;
      room_told = refl;
      since_2 = refl;
      since_3 = refl;
      since_2_by = refl;
      since_3_by = refl;
      at_unreserved = refl;
      above_unreserved = refl;
      above_aggressive = refl;
      own_told = refl;
      received_told = refl;
      last_told = refl;
      six_told = refl;
      six_last = refl;
      cleared = refl;
      cleared_ttl = refl;
      set_ttl = refl;
    }
