-- Public functions of `answer`, by name: two answers that meet the contract are equal.
-- Assumes nothing.
use Rattle.answer.specs.Bytes.{chosen_bytes, mark_bytes, moved_bytes, packed, permitted_bytes, refused_bytes, selected_bytes, written_bytes}
use Rattle.queue.specs.declared.Frame.{Frame}
use Rattle.std.specs.Prelude.{Bool, ℕ, ◌≡◌}
use Rattle.paper.specs.Determined.{Determined}

pub record Functions : Type 0 where
  -- chosen
  pub chosen : (side distance ttl : ℕ) (mark : Bool) → Determined (λ (r : ℕ). r ≡ packed (chosen_bytes side distance ttl mark))
  -- moved
  pub moved : (delivered : Bool) (hops : ℕ) → Determined (λ (r : ℕ). r ≡ packed (moved_bytes delivered hops))
  -- permitted
  pub permitted : (credit : ℕ) → Determined (λ (r : ℕ). r ≡ packed (permitted_bytes credit))
  -- written
  pub written : (n : ℕ) → Determined (λ (r : ℕ). r ≡ packed (written_bytes n))
  -- marked
  pub marked : (mark : ℕ) → Determined (λ (r : ℕ). r ≡ packed (mark_bytes mark))
  -- refused
  pub refused : (number detail : ℕ) → Determined (λ (r : ℕ). r ≡ packed (refused_bytes number detail))
  -- selected
  pub selected : (origin : ℕ) (frame : Frame) → Determined (λ (r : ℕ). r ≡ packed (selected_bytes origin frame))
