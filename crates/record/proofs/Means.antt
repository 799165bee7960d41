-- A record is unreadable with a number exactly when that number has its cause: in the header, or behind items that have none.
-- Assumes nothing.
use Prim.Native.Nat.{ℕ, ◌<◌}
use mathlib.Core.Bool.{Bool}
use mathlib.Core.List.{List, ◌++◌}
use mathlib.Core.Path.{◌≡◌, sym, ap, ◌∙◌}
use lib.ListN.{length}
use Rattle.wire.specs.Wire.{Bytes}
use Rattle.decide.specs.Number.{refusal_of}
use Rattle.decide.proofs.Number.{number_told}
use Rattle.shaper.specs.declared.Limits.{Limits}
use Rattle.shaper.specs.Limits.{most_events}
use Rattle.record.specs.Items.{Item, written_items, unrolled, Formed}
use Rattle.record.specs.Read.{unreadable, read_in}
use Rattle.record.specs.Cause.{Why, too_many, has_fault, passes, Cause, in_header, behind_items}
use Rattle.record.proofs.Rows.{free_stands}
use Rattle.record.proofs.Steps.{header_faulty}
use Rattle.record.proofs.Wrote.{says_whole}
use Rattle.record.proofs.Earliest.{over_million, earliest, run_passes}
use Rattle.record.proofs.Refused.{header_refused_exactly, item_refused_exactly}

-- each number of an unreadable record has its cause,
pub unreadable_means : (runs : Bool) (xs : List ℕ) (n : ℕ) → Bytes xs → read_in runs xs ≡ unreadable n → Cause runs xs n
unreadable_means runs xs n b e = rw e at (says_whole runs xs b)

-- and each cause has its number.
stops : (runs : Bool) (l : Limits) (is : List Item) (q : List ℕ) (n : ℕ) → 0 < n → Formed runs l is → 0 < length q → Why runs 9 l.mtu most_events (length (unrolled is)) q n →
    read_in runs (written_items l is ++ q) ≡ unreadable n
stops runs l is q n p w h (too_many e z) = over_million runs l is q w e h ∙ ap unreadable (sym z)
stops runs l is q n p w h (has_fault few g) = rw (number_told n) at (earliest runs l is q w (refusal_of n) few ((item_refused_exactly runs l.mtu q 0 n h p).1 g))
stops runs l is q n p w h (passes few f over z) = run_passes runs l is q w _ _ _ _ (free_stands runs l.mtu q 0 h f) over ∙ ap unreadable (sym z)

pub means_unreadable : (runs : Bool) (xs : List ℕ) (n : ℕ) → 0 < n → Cause runs xs n → read_in runs xs ≡ unreadable n
means_unreadable runs xs n p (in_header g) = rw (number_told n) at (header_faulty runs xs (refusal_of n) ((header_refused_exactly xs n p).1 g)).1
means_unreadable runs xs n p (behind_items l is q e w h y) = ap (read_in runs) e ∙ stops runs l is q n p w h y
