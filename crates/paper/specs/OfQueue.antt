-- Public functions of `queue`, by name: two answers that meet the contract are equal.
-- Assumes nothing.
use Rattle.decide.specs.Test.{test}
use Rattle.queue.specs.Frame.{frame_of, frame_ok, held_ok, hops_ok, word_of}
use Rattle.queue.specs.Front.{front_of, fronted}
use Rattle.queue.specs.Queue.{empty_queue, first_frame, holds_frame, pushed, space_of, take_of}
use Rattle.queue.specs.Range.{queue_ok, used_of}
use Rattle.queue.specs.declared.Bounds.{Bounds}
use Rattle.queue.specs.declared.Frame.{Frame}
use Rattle.queue.specs.declared.Front.{Front}
use Rattle.queue.specs.declared.Queue.{Queue}
use Rattle.queue.specs.declared.Taken.{Taken}
use Rattle.std.specs.Prelude.{Bool, ℕ, ◌≡◌}
use Rattle.paper.specs.Determined.{Determined}

pub record Functions : Type 0 where
  -- hops_ok
  pub hops_ok_lem : (hops : ℕ) → Determined (λ (r : Bool). r ≡ test (hops_ok hops))
  -- Frame::in_range
  pub frame_in_range : (self : Frame) (bounds : Bounds) → Determined (λ (r : Bool). r ≡ test (frame_ok bounds self))
  -- Frame::word
  pub frame_word : (self : Frame) → Determined (λ (r : ℕ). r ≡ word_of self)
  -- Frame::of
  pub frame_of_lem : (w : ℕ) → Determined (λ (r : Frame). r ≡ frame_of w)
  -- Front::first
  pub front_first : (self : Front) → Determined (λ (r : Frame). r ≡ first_frame (fronted self))
  -- Front::space
  pub front_space : (self : Front) (capacity : ℕ) → Determined (λ (r : ℕ). r ≡ space_of (fronted self) capacity)
  -- Front::holds_frame
  pub front_holds_frame : (self : Front) → Determined (λ (r : Bool). r ≡ holds_frame (fronted self))
  -- Queue::empty
  pub queue_empty : Determined (λ (r : Queue). r ≡ empty_queue)
  -- Queue::push (a leaf: it asks that (self.count < 128) × (self.held + f.size < 2 ^ 32))
  pub queue_push : (self : Queue) (f : Frame) → Determined (λ (r : Queue). r ≡ pushed self f)
  -- Queue::front
  pub queue_front : (self : Queue) → Determined (λ (r : Front). r ≡ front_of self)
  -- Queue::take
  pub queue_take : (self : Queue) → Determined (λ (r : Taken). r ≡ take_of self)
  -- Queue::space
  pub queue_space : (self : Queue) (capacity : ℕ) → Determined (λ (r : ℕ). r ≡ space_of self capacity)
  -- Queue::holds_frame
  pub queue_holds_frame : (self : Queue) → Determined (λ (r : Bool). r ≡ holds_frame self)
  -- Queue::in_range
  pub queue_in_range : (self : Queue) (bounds : Bounds) (capacity : ℕ) → Determined (λ (r : Bool). r ≡ test (queue_ok bounds capacity self))
  -- word_ok
  pub word_ok : (bounds : Bounds) (w : ℕ) → Determined (λ (r : Bool). r ≡ test (held_ok bounds (frame_of w)))
  -- word_used
  pub word_used : (w : ℕ) → Determined (λ (r : ℕ). r ≡ used_of w)
