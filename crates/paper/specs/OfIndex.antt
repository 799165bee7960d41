-- Public functions of `index`, by name: two answers that meet the contract are equal.
-- Assumes nothing.
use Rattle.decide.specs.declared.refusal.Refusal.{Refusal}
use Rattle.excerpt.specs.declared.Place.{Place}
use Rattle.index.specs.Entry.{entry_bytes, place_in, summary_in}
use Rattle.index.specs.Index.{index_of, length_answer}
use Rattle.roll.specs.Moved.{left_of, moved_of}
use Rattle.shaper.specs.declared.Limits.{Limits}
use Rattle.std.specs.Prelude.{List, Result, ℕ, ◌≡◌}
use Rattle.summary.specs.declared.Summary.{Summary}
use Rattle.wire.specs.Wire.{put}
use Rattle.paper.specs.Determined.{Determined, Determined²}

pub record Functions : Type 0 where
  -- entries::put_entry (a leaf: it asks that at + 40 ≤ length s.old)
  pub entries_put_entry : (s : List ℕ) (at : ℕ) (place : Place) (sum : Summary) → Determined (λ (after-s : List ℕ). after-s ≡ put s at (entry_bytes place sum))
  -- entries::summary_at (a leaf: it asks that at + 40 ≤ length s.now)
  pub entries_summary_at : (s : List ℕ) (at : ℕ) (limits : Limits) → Determined (λ (r : Summary). r ≡ summary_in limits s at)
  -- entries::place_at (a leaf: it asks that at + 40 ≤ length s.now)
  pub entries_place_at : (s : List ℕ) (at : ℕ) → Determined (λ (r : Place). r ≡ place_in s at)
  -- length
  pub length : (events : ℕ) → Determined (λ (r : Result ℕ Refusal). r ≡ length_answer events)
  -- fill
  pub fill : (s room : List ℕ) → Determined² (λ (r : Result ℕ Refusal) (after-room : List ℕ). (r ≡ moved_of (index_of s) room) × (after-room ≡ left_of (index_of s) room))
