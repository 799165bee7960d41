-- Public functions of `slots`, by name: two answers that meet the contract are equal.
-- Assumes nothing.
use Rattle.decide.specs.Test.{test}
use Rattle.queue.specs.Front.{front_of}
use Rattle.queue.specs.Queue.{pushed, taken}
use Rattle.queue.specs.Range.{queue_ok}
use Rattle.queue.specs.declared.Bounds.{Bounds}
use Rattle.queue.specs.declared.Frame.{Frame}
use Rattle.queue.specs.declared.Front.{Front}
use Rattle.queue.specs.declared.Queue.{Queue}
use Rattle.slots.specs.Slots.{queue_at, queue_bytes}
use Rattle.std.specs.Prelude.{Bool, List, length, ℕ, ◌≡◌}
use Rattle.wire.specs.Wire.{put}
use Rattle.paper.specs.Determined.{Determined}

pub record Functions : Type 0 where
  -- read (a leaf: it asks that at + queue_length ≤ length s.now)
  pub read : (s : List ℕ) (at : ℕ) → Determined (λ (r : Queue). r ≡ queue_at s at)
  -- front (a leaf: it asks that at + queue_length ≤ length s.now)
  pub front : (s : List ℕ) (at : ℕ) → Determined (λ (r : Front). r ≡ front_of (queue_at s at))
  -- write (a leaf: it asks that at + queue_length ≤ length s.old)
  pub write : (q : Queue) (s : List ℕ) (at : ℕ) → Determined (λ (after-s : List ℕ). (after-s ≡ put s at (queue_bytes q)) × (length q.slots ≡ 128))
  -- push (a leaf: it asks that at + queue_length ≤ length s.old)
  pub push : (f : Frame) (s : List ℕ) (at : ℕ) → Determined (λ (after-s : List ℕ). after-s ≡ put s at (queue_bytes (pushed (queue_at s at) f)))
  -- take (a leaf: it asks that at + queue_length ≤ length s.old)
  pub take : (s : List ℕ) (at : ℕ) → Determined (λ (after-s : List ℕ). after-s ≡ put s at (queue_bytes (taken (queue_at s at))))
  -- in_range (a leaf: it asks that at + queue_length ≤ length s.now)
  pub in_range : (s : List ℕ) (at : ℕ) (bounds : Bounds) (capacity : ℕ) → Determined (λ (r : Bool). r ≡ test (queue_ok bounds capacity (queue_at s at)))
