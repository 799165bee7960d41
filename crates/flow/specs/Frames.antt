-- Where the frames are, as lists: what a queue and the stage hold.
-- Assumes nothing.
use Rattle.std.specs.Prelude.{cond, List, [], ◌∷◌, ◌≢◌}
use Rattle.queue.specs.declared.Frame.{Frame}
use Rattle.queue.specs.declared.Queue.{Queue}
use Rattle.queue.specs.Frame.{frame_of}
use Rattle.queue.specs.Queue.{frames_of}
use Rattle.flow.specs.declared.Flow.{Flow}
use Rattle.flow.specs.Parts.{stage_holds}

-- a queue holds a frame: the list of its frames is not empty
abbrev pub Holding : Queue → Type 0
Holding q = frames_of q ≢ []

-- the stage holds a frame: its word is not that of an empty slot
abbrev pub Staged : Flow → Type 0
Staged f = f.stage ≢ 0

-- the frame in the stage
abbrev pub stage_frames : Flow → List Frame
stage_frames f = cond (stage_holds f) (frame_of f.stage ∷ []) []
