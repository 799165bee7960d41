-- What the movers' own functions find and write.
-- Assumes nothing.
use Rattle.std.specs.Prelude.{ℕ, zero, suc, ◌<◌, Bool, cond, List, [], ◌∷◌, ◌++◌, ◌≡◌, eqb, drop}
use Rattle.wire.specs.Parts.{number, laid_out}
use Rattle.shaper.specs.declared.Limits.{Limits}
use Rattle.shaper.specs.declared.Event.{Event}
use Rattle.shaper.specs.Kind.{number_of}
use Rattle.record.specs.Record.{events_bytes}
use Rattle.record.specs.Read.{is_run, item_kind, item_number, item_count, whole, read_in}
use Rattle.roll.specs.Rolled.{same_ahead}
use Rattle.roll.specs.Moved.{Output, refused, bytes}

-- a record that was read whole, under these settings
pub record Reads (runs : Bool) (xs : List ℕ) (l : Limits) : Type 0 where
  pub events : List Event
  pub reads : read_in runs xs ≡ whole l events

-- under any
pub record Readable (runs : Bool) (xs : List ℕ) : Type 0 where
  pub limits : Limits
  pub under : Reads runs xs limits

-- what is to be written, where the record has no fault
abbrev pub output_of : Output → List ℕ
output_of (refused n) = []
output_of (bytes ys) = ys

-- numbers of two bytes
abbrev pub AllFit : List Event → Type 0
AllFit [] = Unit {0}
AllFit (e ∷ es) = (number_of e < 65536) × AllFit es

-- n is how many events stand at a place that one run takes, from the first of them on
abbrev pub TakenAt : List ℕ → ℕ → ℕ → Type 0
TakenAt xs at n = (e : Event) (es : List Event) → drop at xs ≡ events_bytes (e ∷ es) → AllFit (e ∷ es) → n ≡ suc (same_ahead 65534 e es)

-- ---- bytes by their fields

abbrev pub event_fields : ℕ → ℕ → List ℕ
event_fields kind num = laid_out (number 2 6 ∷ number 2 kind ∷ number 2 num ∷ [])

abbrev pub run_fields : ℕ → ℕ → ℕ → List ℕ
run_fields tick amount count = laid_out (number 2 10 ∷ number 2 4 ∷ number 2 tick ∷ number 2 amount ∷ number 2 count ∷ [])

-- so many equal events, as one item
unfoldable pub item_fields : ℕ → ℕ → ℕ → List ℕ
item_fields kind num count = cond (eqb count 1) (event_fields kind num) (run_fields kind num count)

-- and how many bytes that is
unfoldable pub item_length : ℕ → ℕ
item_length count = cond (eqb count 1) 6 10

-- one by one
unfoldable pub repeated_fields : ℕ → ℕ → ℕ → List ℕ
repeated_fields zero kind num = []
repeated_fields (suc count) kind num = event_fields kind num ++ repeated_fields count kind num

-- ---- an item that is read

-- how many bytes the item at a place has
unfoldable pub item_bytes : List ℕ → ℕ → ℕ
item_bytes xs at = cond (is_run (drop at xs)) 10 6

-- its events, one by one
abbrev pub repeated_at : List ℕ → ℕ → List ℕ
repeated_at xs at = repeated_fields (item_count (drop at xs)) (item_kind (drop at xs)) (item_number (drop at xs))
