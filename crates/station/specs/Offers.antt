-- Frames in: what each offer can be refused for, in order, and what it answers.
-- Assumes nothing.
use Rattle.std.specs.Prelude.{ℕ, min, Bool, not, List, ◌∷◌, Result, Ok, Err}
use Rattle.decide.specs.Test.{test}
use Rattle.decide.specs.Hops.{in_ring}
use Rattle.decide.specs.Refusal.{Fault, fault, first_of, refused_or}
use Rattle.queue.specs.declared.Frame.{Frame}
use Rattle.queue.specs.Frame.{frame_ok}
use Rattle.credits.specs.declared.Way.{Way}
use Rattle.flow.specs.declared.Client as flow
use Rattle.flow.specs.declared.Line.{Line}
use Rattle.flow.specs.declared.Line.TheVariants.{Control}
use Rattle.shaper.specs.declared.Refused.{Refused}
use Rattle.shaper.specs.Short.{detail_of}
use Rattle.shaper.specs.Refused.{refused, afterwards}
use Rattle.credits.specs.Short.{short_all}
use Rattle.credits.specs.Way.{needs_of, way_of}
use Rattle.flow.specs.Parts.{bounds_of}
use Rattle.flow.specs.Offer.{Entered, enter_faults, enter_of, queue_for, control_frame, client_faults, mark_said, flow_after, client_of}
use Rattle.fair.specs.Count.{over}
use Rattle.station.specs.declared.Station.{Station}
use Rattle.station.specs.declared.Client.{Client}
use Rattle.station.specs.Answers.{with_flow, Done, refused_of, done_of}
use Rattle.station.specs.Calls.{range_fault}

-- ---- the frame that is offered

abbrev pub given_frame : ℕ → ℕ → ℕ → ℕ → Frame
given_frame class size hops mark = record { size = size; hops = hops; class = class; mark = mark }

-- 3: a frame .. or coded choice (class .. yes or no and the like) is outside its range
abbrev pub frame_fault : Station → Frame → Fault
frame_fault st x = fault 3 (not (test (frame_ok (bounds_of st.settings) x)))

-- 13: a transit frame or a client frame whose hops reach the number of stations or more
abbrev pub hops_fault : Station → Frame → Fault
hops_fault st x = fault 13 (not (test (in_ring st.settings.site.stations x.hops)))

-- the same frame with each number cut to 32 bits at most
abbrev pub cut_of : ℕ → ℕ
cut_of x = min x 4294967295

abbrev pub cut_frame : ℕ → ℕ → ℕ → ℕ → Frame
cut_frame class size hops mark = record { size = cut_of size; hops = cut_of hops; class = cut_of class; mark = cut_of mark }

-- ---- into a queue

-- 1, 3, 13, and 4: a frame's size exceeds the queue's space
abbrev pub offer_faults : Station → Line → Frame → List Fault
offer_faults st l x = range_fault st ∷ frame_fault st x ∷ hops_fault st x ∷ enter_faults st.settings st.flow l x

-- what the queue says
abbrev pub brought_of : Station → Entered → Done
brought_of st (Ok f) = Ok (with_flow st f)
brought_of st (Err e) = Err e

-- the frame stands last in the queue
abbrev pub offer_of : Station → Line → Frame → Done
offer_of st l x = refused_or refused_of (first_of (offer_faults st l x)) (done_of (with_flow st (afterwards st.flow (enter_of st.settings st.flow l x))))

-- Transit A goes to the primary queue, B and C to the secondary.
abbrev pub offer_transit_of : Station → ℕ → ℕ → ℕ → ℕ → Done
offer_transit_of st class size hops eligible = offer_of st (queue_for st.settings class) (given_frame class size hops eligible)

-- Control frames, given by size alone (class A, 1 hop), go to the control queue.
abbrev pub offer_control_of : Station → ℕ → Done
offer_control_of st size = offer_of st Control (control_frame size)

-- ---- into the stage

-- whether the frame, as an eligible one, would pass the congested fair rate
abbrev pub over_for : Station → ℕ → ℕ → Bool
over_for st size hops = test (over st.fair size hops)

-- how a client frame of this class goes in: as A, as B, or as excess
abbrev pub way_for : Station → ℕ → Way
way_for st class = way_of st.settings st.flow.credits class

-- 1, 3, 13, and 5: the stage already holds a frame; 6: a needed shaper doesn't permit; 7: the congested fair rate would be passed. A client gives no mark.
abbrev pub offer_client_faults : Station → ℕ → ℕ → ℕ → List Fault
offer_client_faults st class size hops =
    range_fault st
    ∷ frame_fault st (given_frame class size hops 0)
    ∷ hops_fault st (given_frame class size hops 0)
    ∷ client_faults st.settings st.flow (way_for st class) (over_for st size hops)

-- what the stage says
abbrev pub staged_of : Station → Result flow.Client Refused → Result Client Refused
staged_of st (Ok r) = Ok (record { mark = r.mark; station = with_flow st r.flow })
staged_of st (Err e) = Err e

abbrev pub staging : Station → ℕ → ℕ → ℕ → Result flow.Client Refused
staging st class size hops = client_of st.settings st.flow class size hops (over_for st size hops)

abbrev pub client_for : Station → Frame → Result Client Refused
client_for st x = staged_of st (staging st x.class x.size x.hops)

-- how far short the shapers are that a client frame of this class needs; of client B, where its own share does not let it in, those of the excess attempt
abbrev pub short_for : Station → ℕ → ℕ
short_for st class = short_all st.settings st.flow.credits (needs_of (way_for st class))

-- a refusal is a number, and what it says beside it: no station is answered, so that nothing is changed
abbrev pub turned_of : ℕ → ℕ → Result Client Refused
turned_of n detail = Err (refused n detail)

-- what the answer says of the frame's mark: 0 where it is refused
abbrev pub mark_told : Result Client Refused → ℕ
mark_told (Ok r) = r.mark
mark_told (Err e) = 0

-- and the station afterwards: a refusal leaves it as it was
abbrev pub station_left : Station → Result Client Refused → Station
station_left st (Ok r) = r.station
station_left st (Err e) = st

-- what a refusal says to a client frame of this class
abbrev pub turned_for : Station → ℕ → ℕ → Result Client Refused
turned_for st class n = turned_of n (detail_of n (short_for st class))

-- the frame is in, with its mark
abbrev pub taken_of : Station → Result flow.Client Refused → Result Client Refused
taken_of st r = Ok (record { mark = mark_said r; station = with_flow st (flow_after st.flow r) })

-- The stage holds one client frame.
abbrev pub offer_client_of : Station → ℕ → ℕ → ℕ → Result Client Refused
offer_client_of st class size hops =
    refused_or (turned_for st class) (first_of (offer_client_faults st class size hops)) (taken_of st (staging st class size hops))
