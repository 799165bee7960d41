-- A record with runs (document 02, A8): what its writer writes, and the events that it stands for.
-- Assumes nothing.
use Rattle.std.specs.Prelude.{ℕ, zero, suc, ◌≤◌, ◌<◌, Bool, true, List, [], ◌∷◌, ◌++◌, ◌≡◌, length, replicate}
use Rattle.decide.specs.Test.{Holds}
use Rattle.wire.specs.Parts.{Part, number, laid_out}
use Rattle.shaper.specs.declared.Limits.{Limits}
use Rattle.shaper.specs.declared.Event.{Event}
use Rattle.shaper.specs.Limits.{limits_ok, most_events}
use Rattle.shaper.specs.Credit.{Valid}
use Rattle.shaper.specs.Kind.{kind_of, number_of}
use Rattle.record.specs.Record.{header_bytes, event_bytes}

-- An item is an event as before, or a run: so many equal ticks.
pub data Item : Type 0 where
  one : Event → Item
  run : Event → ℕ → Item

-- so many of an event as an item: one left alone stays a plain event
abbrev pub item_of : Event → ℕ → Item
item_of e (suc (suc n)) = run e (suc (suc n))
item_of e (suc zero) = one e
item_of e zero = one e

-- ---- its bytes

-- Kind 4, length 10: a tick kind (2, being 1 or 2), an amount (2), a count (2, from 2 to 65,535), standing for that many equal ticks.
abbrev pub run_parts : Event → ℕ → List Part
run_parts e count = number 2 10 ∷ number 2 4 ∷ number 2 (kind_of e) ∷ number 2 (number_of e) ∷ number 2 count ∷ []

unfoldable pub run_bytes : Event → ℕ → List ℕ
run_bytes e count = laid_out (run_parts e count)

abbrev pub item_bytes : Item → List ℕ
item_bytes (one e) = event_bytes e
item_bytes (run e count) = run_bytes e count

abbrev pub items_bytes : List Item → List ℕ
items_bytes [] = []
items_bytes (i ∷ is) = item_bytes i ++ items_bytes is

-- a record in either form: its header followed by its items
abbrev pub written_items : Limits → List Item → List ℕ
written_items l is = header_bytes l ++ items_bytes is

-- ---- its events: they are counted unrolled

abbrev pub unrolled_item : Item → List Event
unrolled_item (one e) = e ∷ []
unrolled_item (run e count) = replicate count e

abbrev pub unrolled : List Item → List Event
unrolled [] = []
unrolled (i ∷ is) = unrolled_item i ++ unrolled is

-- the most events of a run
abbrev pub most_of_run : ℕ
most_of_run = 65535

-- What may be written: an event in range, and where runs may stand a tick in range, 2 to 65,535 times.
abbrev pub ItemOk : Bool → Limits → Item → Type 0
ItemOk runs l (one e) = Valid l e
ItemOk runs l (run e count) = (runs ≡ true) × (kind_of e < 3) × Valid l e × (2 ≤ count) × (count ≤ most_of_run)

abbrev pub ItemsOk : Bool → Limits → List Item → Type 0
ItemsOk runs l [] = Unit {0}
ItemsOk runs l (i ∷ is) = ItemOk runs l i × ItemsOk runs l is

-- settings and items in range, at most 1,000,000 events
pub record Formed (runs : Bool) (l : Limits) (is : List Item) : Type 0 where
  pub settings : Holds (limits_ok l)
  pub items : ItemsOk runs l is
  pub few : length (unrolled is) ≤ most_events
