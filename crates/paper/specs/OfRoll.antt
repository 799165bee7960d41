-- Public functions of `roll`, by name: two answers that meet the contract are equal.
-- Assumes nothing.
use Rattle.decide.specs.declared.refusal.Refusal.{Refusal}
use Rattle.record.specs.Record.{header_bytes}
use Rattle.roll.specs.Moved.{left_of, moved_of, rolled_bytes, unrolled_bytes}
use Rattle.roll.specs.Steps.{event_fields, item_fields, item_length, repeated_fields}
use Rattle.shaper.specs.declared.Limits.{Limits}
use Rattle.std.specs.Prelude.{List, Result, ℕ, ◌%◌, ◌*◌, ◌+◌, ◌/◌, ◌≡◌}
use Rattle.wire.specs.Wire.{put}
use Rattle.paper.specs.Determined.{Determined, Determined²}

pub record Functions : Type 0 where
  -- bytes::put_header (a leaf: it asks that Holds (limits_ok limits) × (14 ≤ length s.old))
  pub bytes_put_header : (s : List ℕ) (limits : Limits) → Determined (λ (after-s : List ℕ). after-s ≡ put s 0 (header_bytes limits))
  -- bytes::put_item (a leaf: it asks that (at + item_length count ≤ length s.old) × (count ≤ 65535))
  pub bytes_put_item : (s : List ℕ) (at event count : ℕ) → Determined² (λ (r : ℕ) (after-s : List ℕ). (r ≡ at + item_length count) × (after-s ≡ put s at (item_fields (event % 65536) (event / 65536) count)))
  -- bytes::item_length
  pub bytes_item_length : (count : ℕ) → Determined (λ (r : ℕ). r ≡ item_length count)
  -- bytes::put_ticks (a leaf: it asks that at + 6 * count ≤ length s.old)
  pub bytes_put_ticks : (s : List ℕ) (at tick count : ℕ) → Determined² (λ (r : ℕ) (after-s : List ℕ). (r ≡ at + 6 * count) × (after-s ≡ put s at (repeated_fields count (tick % 65536) (tick / 65536))))
  -- bytes::put_event (a leaf: it asks that at + 6 ≤ length s.old)
  pub bytes_put_event : (s : List ℕ) (at event : ℕ) → Determined (λ (after-s : List ℕ). after-s ≡ put s at (event_fields (event % 65536) (event / 65536)))
  -- roll
  pub roll : (s room : List ℕ) → Determined² (λ (r : Result ℕ Refusal) (after-room : List ℕ). (r ≡ moved_of (rolled_bytes s) room) × (after-room ≡ left_of (rolled_bytes s) room))
  -- unroll
  pub unroll : (s room : List ℕ) → Determined² (λ (r : Result ℕ Refusal) (after-room : List ℕ). (r ≡ moved_of (unrolled_bytes s) room) × (after-room ≡ left_of (unrolled_bytes s) room))
