-- The cause of a record's number.
-- Assumes nothing.
use Rattle.std.specs.Prelude.{ℕ, ◌+◌, ◌<◌, Bool, List, ◌++◌, ◌≡◌, length}
use Rattle.decide.specs.Refusal.{Given, first_of}
use Rattle.shaper.specs.declared.Limits.{Limits}
use Rattle.shaper.specs.Limits.{most_events}
use Rattle.record.specs.Items.{Item, unrolled, written_items, Formed}
use Rattle.record.specs.Read.{header_faults, item_faults, item_count}

-- Why the bytes q, behind `done` events where `most` may stand, give n: any byte after the last gives `late`; before it the next item has the fault, or it has none and
-- stands for more events than may come. `runs` says whether runs may stand.
pub data Why (runs : Bool) (late mtu most done : ℕ) (q : List ℕ) (n : ℕ) : Type 0 where
  too_many : done ≡ most → n ≡ late → Why runs late mtu most done q n
  has_fault : done < most → Given (item_faults runs mtu q) n → Why runs late mtu most done q n
  passes : done < most → first_of (item_faults runs mtu q) ≡ 0 → most < done + item_count q → n ≡ late → Why runs late mtu most done q n

-- Header first, then the earliest: the fault is in the header, or in the bytes that stand behind a header and some items without one; any byte after the
-- millionth event gives 9, and so does a run that passes it.
pub data Cause (runs : Bool) (xs : List ℕ) (n : ℕ) : Type 0 where
  in_header : Given (header_faults xs) n → Cause runs xs n
  behind_items : (l : Limits) (is : List Item) (q : List ℕ) → xs ≡ written_items l is ++ q → Formed runs l is → 0 < length q →
      Why runs 9 l.mtu most_events (length (unrolled is)) q n → Cause runs xs n
