-- Small flows, their numbers worked out by hand from document 01 and here computed. Assumes nothing.
use Prim.Native.Nat.{ℕ}
use mathlib.Core.Bool.{true, false}
use mathlib.Core.List.{List, [], ◌∷◌}
use mathlib.Core.Path.{◌≡◌, refl}
use Rattle.decide.specs.Refusal.{first, first_of, refused_or}
use Rattle.queue.specs.declared.Frame.{Frame}
use Rattle.queue.specs.declared.Queue.{Queue}
use Rattle.queue.specs.Frame.{word_of}
use Rattle.queue.specs.Queue.{empty_queue, pushed}
use Rattle.settings.specs.declared.Bucket.{Bucket}
use Rattle.settings.specs.declared.Settings.{Settings}
use Rattle.credits.specs.declared.Credits.{Credits}
use Rattle.credits.specs.Way.{way_of}
use Rattle.flow.specs.declared.Flow.{Flow}
use Rattle.flow.specs.Tick.{tick_of}
use Rattle.shaper.specs.Refused.{number_said, detail_said}
use Rattle.flow.specs.Offer.{client_of, mark_said, flow_after}

-- mtu 64; each shaper loLimit 100, hiLimit 300, amount 50; control and primary queue 100 bytes, secondary 128; 6 stations
abbrev pub settings : Settings
settings =
    let b : Bucket = record { lo = 100; hi = 300; amount = 50 } in
    record {
      address = record { high = 1; low = 2 };
      ringlet = 0;
      mtu = 64;
      shapers = record { m = b; a = b; b = b; c = b; d = b };
      queues = record { control = 100; primary = 100; secondary = 128; threshold = 64 };
      fairness = record { weight = 1; unit = 1; ticks = 10; unreserved = 1000; age = 4; lp = 64; ramp = 64 };
      site = record { stations = 6; method = 0; trip = 40; down = 64 };
    }

-- a frame of class A with 3 hops to go, and a queue of such frames
abbrev pub frame : ℕ → Frame
frame size = record { size = size; hops = 3; class = 0; mark = 0 }

abbrev pub queue_with : Queue → List ℕ → Queue
queue_with q [] = q
queue_with q (size ∷ sizes) = queue_with (pushed q (frame size)) sizes

-- one credit for M, A, B, and others for C and D
abbrev pub credits : (mab c d : ℕ) → Credits
credits mab c d = record { m = mab; a = mab; b = mab; c = c; d = d }

-- frames of these sizes in control, primary and secondary queue, and this word in the stage
abbrev pub flow : Credits → (control primary secondary : List ℕ) (stage : ℕ) → Flow
flow c control primary secondary stage =
    record {
      credits = c;
      control = queue_with empty_queue control;
      primary = queue_with empty_queue primary;
      secondary = queue_with empty_queue secondary;
      stage = stage;
    }

pub record Examples : Type 0 where
  -- Nothing waits but the stage's frame: D goes from 280 by 50 to 330, cut to hiLimit 300; M, A, B from 90 to 140, cut to loLimit 100; C has a share
  -- of 7 alone, 90 + 7.
  pub stage_waits : (tick_of settings (flow (credits 90 90 280) [] [] [] (word_of (frame 40))) 7 false false false).credits ≡ credits 100 97 300
  -- without that frame D is cut to loLimit
  pub none_waits : (tick_of settings (flow (credits 90 90 280) [] [] [] 0) 7 false false false).credits ≡ credits 100 97 100
  -- B traffic waits: B, C and D have 90 + 50, uncut; a share of 51 leaves C its setting
  pub b_waits : (tick_of settings (flow (credits 90 90 90) [] [] [] 0) 51 false true false).credits ≡ record { m = 100; a = 100; b = 140; c = 140; d = 140 }
  -- a control frame and a secondary one wait: M has 140, and so has D
  pub queues_wait : (tick_of settings (flow (credits 90 90 90) (16 ∷ []) [] (16 ∷ []) 0) 51 false false false).credits ≡ record { m = 140; a = 100; b = 100; c = 100; d = 140 }
  -- Client B of 40 bytes: B lacks at 100, so it is excess, marked, and C and D pay; where B has 101 it pays with D, unmarked; where D lacks it is 6.
  pub excess : mark_said (client_of settings (flow (credits 100 200 200) [] [] [] 0) 1 40 3 false) ≡ 1
  pub excess_pays : (flow_after (flow (credits 100 200 200) [] [] [] 0) (client_of settings (flow (credits 100 200 200) [] [] [] 0) 1 40 3 false)).credits ≡ credits 100 160 160
  pub own_rate : mark_said (client_of settings (flow (credits 101 200 200) [] [] [] 0) 1 40 3 false) ≡ 0
  pub own_pays : (flow_after (flow (credits 101 200 200) [] [] [] 0) (client_of settings (flow (credits 101 200 200) [] [] [] 0) 1 40 3 false)).credits ≡ record { m = 101; a = 101; b = 61; c = 200; d = 160 }
  pub d_lacks : number_said (client_of settings (flow (credits 101 200 100) [] [] [] 0) 1 40 3 false) ≡ 6
  -- How far short: D lacks 1. At credits of 50, 60 and 90, A and B lack 51, C 41 and D 11: A is told its own, and B, tried as excess, the larger of C's and D's;
  -- with C and D exchanged the same.
  pub d_short : detail_said (client_of settings (flow (credits 101 200 100) [] [] [] 0) 1 40 3 false) ≡ 1
  pub a_short : detail_said (client_of settings (flow (credits 50 60 90) [] [] [] 0) 0 40 3 false) ≡ 51
  pub excess_short : detail_said (client_of settings (flow (credits 50 60 90) [] [] [] 0) 1 40 3 false) ≡ 41
  pub d_larger : detail_said (client_of settings (flow (credits 50 90 60) [] [] [] 0) 2 40 3 false) ≡ 41

pub examples : Examples
unfolding tick_of way_of refused_or first_of first pushed empty_queue
examples =
    record {
      stage_waits = refl;
      none_waits = refl;
      b_waits = refl;
      queues_wait = refl;
      excess = refl;
      excess_pays = refl;
      own_rate = refl;
      own_pays = refl;
      d_lacks = refl;
      d_short = refl;
      a_short = refl;
      excess_short = refl;
      d_larger = refl;
    }
