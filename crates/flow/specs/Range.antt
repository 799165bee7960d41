-- When a flow is in range: as a test, and as facts with names.
-- Assumes nothing.
use Rattle.std.specs.Prelude.{ℕ, ◌≤◌, ◌⊎◌, ◌≡◌}
use Rattle.decide.specs.Test.{Test, ◌≡?◌, ◌∧?◌, ◌∨?◌}
use Rattle.queue.specs.declared.Bounds.{Bounds}
use Rattle.queue.specs.Frame.{frame_of, held_ok, HeldOk}
use Rattle.queue.specs.Range.{queue_ok, QueueOk}
use Rattle.settings.specs.declared.Settings.{Settings}
use Rattle.credits.specs.declared.Which.{Which}
use Rattle.credits.specs.Which.{bucket_of, credit_of}
use Rattle.credits.specs.Range.{credits_ok}
use Rattle.flow.specs.declared.Flow.{Flow}
use Rattle.flow.specs.declared.Line.{Line}
use Rattle.flow.specs.Parts.{queue_of, capacity_of, bounds_of}

-- no frame, or one that may be held
abbrev pub stage_ok : Bounds → ℕ → Test
stage_ok b w = w ≡? 0 ∨? held_ok b (frame_of w)

-- A lent station is in range if its .. frames, slots and bytes held (the sizes' sum, at most the capacity) are, credits are 0 to hiLimit ..
unfoldable pub flow_ok : Settings → Flow → Test
flow_ok s f =
    credits_ok s f.credits
    ∧? queue_ok (bounds_of s) s.queues.control f.control
    ∧? queue_ok (bounds_of s) s.queues.primary f.primary
    ∧? queue_ok (bounds_of s) s.queues.secondary f.secondary
    ∧? stage_ok (bounds_of s) f.stage

-- the same as named facts
pub record FlowOk (s : Settings) (f : Flow) : Type 0 where
  pub credits : (w : Which) → credit_of f.credits w ≤ (bucket_of s w).hi
  pub queues : (l : Line) → QueueOk (bounds_of s) (capacity_of s l) (queue_of f l)
  pub stage : (f.stage ≡ 0) ⊎ HeldOk (bounds_of s) (frame_of f.stage)
