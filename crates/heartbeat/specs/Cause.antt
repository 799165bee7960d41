-- The cause of each number that a heartbeat is refused with.
-- Assumes nothing.
use Rattle.std.specs.Prelude.{ℕ, ◌*◌, ◌≤◌, ◌<◌, true, List, ◌++◌, ◌≡◌, length}
use Rattle.decide.specs.Test.{Holds}
use Rattle.decide.specs.Refusal.{Given}
use Rattle.shaper.specs.declared.Limits.{Limits}
use Rattle.shaper.specs.Limits.{limits_ok, most_events}
use Rattle.record.specs.Items.{Item, written_items, unrolled, ItemsOk}
use Rattle.record.specs.Read.{header_faults}
use Rattle.record.specs.Cause.{Why}
use Rattle.heartbeat.specs.Heartbeat.{most_of_pattern}

-- what a pattern is written of: settings and items in range, in either form, at most 256 events
pub record PatternOk (l : Limits) (is : List Item) : Type 0 where
  pub settings : Holds (limits_ok l)
  pub items : ItemsOk true l is
  pub few : length (unrolled is) ≤ most_of_pattern

-- As for records, header first and then the earliest: the fault is in the header, or in the bytes that stand behind a header and some items without one. Any byte after the
-- 256th event gives 3, and so does a run without a fault of its own that passes it.
pub data PatternCause (xs : List ℕ) (n : ℕ) : Type 0 where
  in_header : Given (header_faults xs) n → PatternCause xs n
  behind_items : (l : Limits) (is : List Item) (q : List ℕ) → xs ≡ written_items l is ++ q → PatternOk l is → 0 < length q →
      Why true 3 l.mtu most_of_pattern (length (unrolled is)) q n → PatternCause xs n

-- Then 9 where repeats times pattern events exceed 1,000,000.
pub data HeartbeatCause (xs : List ℕ) (r n : ℕ) : Type 0 where
  in_pattern : PatternCause xs n → HeartbeatCause xs r n
  too_often : (l : Limits) (is : List Item) → xs ≡ written_items l is → PatternOk l is → most_events < r * length (unrolled is) → n ≡ 9 → HeartbeatCause xs r n
