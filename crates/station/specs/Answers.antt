-- What calls answer: a refusal, which leaves the station untouched (`afterwards` of shaper), or what the call leaves. Which of the two it is goes by the
-- number of the call's rows, `refused_or` of decide.
-- Assumes nothing.
use Rattle.std.specs.Prelude.{ℕ, Result, Ok, Err}
use Rattle.shaper.specs.declared.Refused.{Refused}
use Rattle.shaper.specs.Refused.{refused}
use Rattle.queue.specs.declared.Frame.{Frame}
use Rattle.queue.specs.Frame.{frame_of}
use Rattle.flow.specs.declared.Flow.{Flow}
use Rattle.selection.specs.declared.Selected as selection
use Rattle.selection.specs.Select.{select_of}
use Rattle.fair.specs.declared.Fair.{Fair}
use Rattle.fair.specs.Count.{count_of}
use Rattle.station.specs.declared.Station.{Station}
use Rattle.station.specs.declared.Selected.{Selected}

-- ---- a station with one part anew

abbrev pub with_flow : Station → Flow → Station
with_flow st f = record { settings = st.settings; flow = f; fair = st.fair }

abbrev pub with_fair : Station → Fair → Station
with_fair st f = record { settings = st.settings; flow = st.flow; fair = f }

-- ---- answers that are the station alone

-- what most calls answer: the station afterwards, or a refusal
abbrev pub Done : Type 0
Done = Result Station Refused

-- Each [refusal] returns its number alone and leaves the station and all lent bytes untouched: no station is answered.
abbrev pub refused_of : ℕ → Done
refused_of n = Err (refused n 0)

-- The call is carried out, and leaves this station.
abbrev pub done_of : Station → Done
done_of next = Ok next

-- ---- what selection answers

-- the station that the chosen frame has left, and in which it is counted: by where it came from, its mark, hops and size
abbrev pub counted_of : Station → selection.Selected → Station
counted_of st r =
    record {
      settings = st.settings;
      flow = r.flow;
      fair = count_of st.settings st.fair r.origin r.frame.mark r.frame.hops r.frame.size;
    }

-- the chosen frame
abbrev pub given_of : Station → selection.Selected → Selected
given_of st r = record { origin = r.origin; frame = r.frame; station = counted_of st r }

abbrev pub chosen_of : Station → Selected
chosen_of st = given_of st (select_of st.settings st.flow)

-- no frame
abbrev pub not_chosen_of : ℕ → Result Selected Refused
not_chosen_of n = Err (refused n 0)

-- what the answer says: where the frame comes from, and the frame, or nothing where it is refused;
abbrev pub origin_said : Result Selected Refused → ℕ
origin_said (Ok r) = r.origin
origin_said (Err e) = 0

abbrev pub frame_said : Result Selected Refused → Frame
frame_said (Ok r) = r.frame
frame_said (Err e) = frame_of 0

-- and the station afterwards: a refusal leaves it as it was
abbrev pub rest_after : Station → Result Selected Refused → Station
rest_after st (Ok r) = r.station
rest_after st (Err e) = st
