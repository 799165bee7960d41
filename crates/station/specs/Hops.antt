-- No hops beyond the ring: of the frames that a station holds, of what it received, and of the frame that it tells.
-- Assumes nothing.
use Rattle.std.specs.Prelude.{ℕ, ◌<◌, List, [], ◌∷◌}
use Rattle.queue.specs.declared.Frame.{Frame}
use Rattle.queue.specs.Queue.{frames_of}
use Rattle.flow.specs.declared.Line.{Line}
use Rattle.flow.specs.Parts.{queue_of}
use Rattle.flow.specs.Frames.{stage_frames}
use Rattle.heard.specs.Range.{hops_of}
use Rattle.station.specs.declared.Station.{Station}
use Rattle.station.specs.Hear.{advert_said, tell_of}

-- of each of these frames the hops stay below the number of stations
abbrev pub HopsBelow : ℕ → List Frame → Type 0
HopsBelow stations [] = Unit {0}
HopsBelow stations (x ∷ xs) = (x.hops < stations) × HopsBelow stations xs

-- On a ring of so many stations:
pub record WithinRing (stations : ℕ) (st : Station) : Type 0 where
  -- the frames in each queue and in the stage,
  pub queues : (l : Line) → HopsBelow stations (frames_of (queue_of st.flow l))
  pub stage : HopsBelow stations (stage_frames st.flow)
  -- what was received, congested or not,
  pub received : hops_of st.fair.received.ttl < stations
  -- and the frame that it tells
  pub told : hops_of (advert_said (tell_of st)).ttl < stations
