-- Document 01, "Proved examples": P1 to P12, P7 as document 02 has it, together in one statement.
-- Assumes nothing.
use Rattle.std.specs.Prelude.{Ok, Some, None}
use Rattle.std.specs.Prelude.{true, false, List, [], ◌∷◌, ◌≡◌, pos}
use Rattle.shaper.specs.declared.Limits.{Limits}
use Rattle.shaper.specs.declared.Event.{Event}
use Rattle.shaper.specs.declared.Event.TheVariants.{Waiting, Send}
use Rattle.shaper.specs.Credit.{permits}
use Rattle.summary.specs.declared.Summary.{Summary}
use Rattle.summary.specs.Answer.{Outcome}
use Rattle.summary.specs.Summary.{summary_of}
use Rattle.summary.specs.Answer.{settle_of}
use Rattle.rates.specs.Rates.{smoothed_of, shown_of, aged_of, own_rate_of}
use Rattle.ring.specs.Choosing.{chosen_as, no_choice, choose_of}
use Rattle.wrap.specs.Walking.{journey, path_of, whole_of}

-- mtu 64, loLimit 100, hiLimit 300
abbrev settings : Limits
settings = record { mtu = 64; lo = 100; hi = 300 }

-- the summary of these events
abbrev of : List Event → Summary
of events = summary_of settings events

abbrev p2 : List Event
p2 = Waiting 150 ∷ Send 60 ∷ []

abbrev p3 : List Event
p3 = Waiting 150 ∷ Send 60 ∷ Send 64 ∷ []

abbrev p4 : List Event
p4 = Send 60 ∷ Send 60 ∷ []

abbrev p5 : List Event
p5 = Send 64 ∷ Send 64 ∷ Send 64 ∷ Send 64 ∷ Send 64 ∷ []

-- Five stations, from 0 to 2. Link k is bit k: 31 has all five links, 29 lacks link 1, 21 lacks links 1 and 3. Side 3 is default, 2 right, 1 left;
-- protection 0 is unspecified, 1 protected; ring 0 is steering.
pub record Examples : Type 0 where
  -- P1 empty: ceiling 300, need 0.
  pub p1_ceiling : (of []).ceiling ≡ pos 300
  pub p1_need : (of []).need ≡ 0
  -- P2 waiting tick 150, send 60: accrued 150, sent 60, ceiling 240, need 0.
  pub p2_accrued : (of p2).accrued ≡ 150
  pub p2_sent : (of p2).sent ≡ 60
  pub p2_ceiling : (of p2).ceiling ≡ pos 240
  pub p2_need : (of p2).need ≡ 0
  -- P3 P2 then send 64: ceiling 176, need 11. From 11 permitted, from 10 not.
  pub p3_ceiling : (of p3).ceiling ≡ pos 176
  pub p3_need : (of p3).need ≡ 11
  pub p3_from_11 : settle_of (of p3) 11 ≡ Ok (Some 37)
  pub p3_from_10 : settle_of (of p3) 10 ≡ Ok None
  -- P4 send 60 twice: ceiling 180, need 161.
  pub p4_ceiling : (of p4).ceiling ≡ pos 180
  pub p4_need : (of p4).need ≡ 161
  -- P5 send 64 five times: need 301.
  pub p5_need : (of p5).need ≡ 301
  -- P6 credit 100 doesn't permit, 101 does.
  pub p6_100 : permits 100 100 ≡ false
  pub p6_101 : permits 101 100 ≡ true
  -- P7, as document 02, A4 replaces it: s 2,368 and rate 100 give s 2,431, shown 37, and at the next interval s 2,494, shown 38.
  pub p7_stored : smoothed_of 64 2368 100 ≡ 2431
  pub p7_shown : shown_of 64 2431 ≡ 37
  pub p7_next_stored : smoothed_of 64 2431 100 ≡ 2494
  pub p7_next_shown : shown_of 64 2494 ≡ 38
  -- P8 counter 6,400, ageCoef 4: 4,800.
  pub p8 : aged_of 6400 4 ≡ 4800
  -- P9 local 1,000, weight 2, unit 4: own 125.
  pub p9 : own_rate_of 1000 2 4 ≡ 125
  -- P10 five stations, 0 to 2, default: right, distance 2; link 1 down: left, 3.
  pub p10 : choose_of 5 0 2 31 3 0 0 ≡ chosen_as 2 2 2 false
  pub p10_down : choose_of 5 0 2 29 3 0 0 ≡ chosen_as 1 3 3 false
  -- P11 links 1 and 3 down, protected: 8.
  pub p11 : choose_of 5 0 2 21 3 1 0 ≡ no_choice 8
  -- P12 wrap-marked from 0 to 2, home side right, link 1 down: path of 5 hops. The frame takes link 0 to station 1, where link 1 is down; turns, goes
  -- back over link 0 and on over links 4, 3 and 2 to station 2, where link 1 is down again; turns, and is on its home side at the target.
  pub p12 : path_of 5 0 2 29 2 ≡ journey true 5
  pub p12_links : (whole_of 5 0 2 29 2).links ≡ 0 ∷ 0 ∷ 4 ∷ 3 ∷ 2 ∷ []
