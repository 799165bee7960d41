-- How a selection moves the frames.
-- Assumes nothing.
use Rattle.std.specs.Prelude.{ℕ, cond, List, [], ◌∷◌, ◌++◌, ◌≡◌, eqb}
use Rattle.queue.specs.declared.Frame.{Frame}
use Rattle.queue.specs.Queue.{frames_of}
use Rattle.flow.specs.declared.Flow.{Flow}
use Rattle.flow.specs.Frames.{stage_frames}
use Rattle.selection.specs.declared.Selected.{Selected}

-- the frame selected, where it is of this origin
abbrev pub gone : Selected → ℕ → List Frame
gone r origin = cond (eqb r.origin origin) (r.frame ∷ []) []

-- The chosen frame leaves its queue, where it was first; no other frame moves.
pub record Moves (f : Flow) (r : Selected) : Type 0 where
  pub of_control : frames_of f.control ≡ gone r 1 ++ frames_of r.flow.control
  pub of_primary : frames_of f.primary ≡ gone r 2 ++ frames_of r.flow.primary
  pub of_secondary : frames_of f.secondary ≡ gone r 3 ++ frames_of r.flow.secondary
  pub of_stage : stage_frames f ≡ gone r 4 ++ stage_frames r.flow
