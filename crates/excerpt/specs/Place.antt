-- The place of an event in a record: the byte of its item, and how many of that item's events come before it.
-- Assumes nothing.
use Rattle.std.specs.Prelude.{ℕ, zero, suc, ◌+◌, true, cond, List, ◌∷◌, leb, ltb, drop}
use Rattle.decide.specs.Refusal.{Fault, fault}
use Rattle.shaper.specs.declared.Event.{Event}
use Rattle.shaper.specs.Kind.{event_of}
use Rattle.record.specs.Read.{length_at, item_faults, item_kind, item_number, item_count, gone_behind}
use Rattle.excerpt.specs.declared.Place.{Place}

-- the first event's: right behind the header
abbrev pub first_place : Place
first_place = record { at = 14; gone = 0 }

-- the bytes from its item on, and the event there
abbrev pub bytes_from : List ℕ → Place → List ℕ
bytes_from xs p = drop p.at xs

abbrev pub event_from : List ℕ → Place → Event
event_from xs p = event_of (item_kind (bytes_from xs p)) (item_number (bytes_from xs p))

-- Behind an event stands the next of its item, and behind the item's last the first of the item behind its stated length.
abbrev pub next_place : List ℕ → Place → Place
next_place xs p =
    record {
      at = cond (ltb (suc p.gone) (item_count (bytes_from xs p))) p.at (p.at + length_at (bytes_from xs p));
      gone = gone_behind p.gone (bytes_from xs p);
    }

-- behind the first `gone` events of an item that stands for `many`: within it, or where the next begins
unfoldable pub passed_of : ℕ → ℕ → ℕ → ℕ → Place
passed_of at gone many next = cond (ltb gone many) (record { at = at; gone = gone }) (record { at = next; gone = 0 })

-- behind so many events
unfoldable pub place_after : ℕ → List ℕ → Place → Place
place_after zero xs p = p
place_after (suc count) xs p = place_after count xs (next_place xs p)

-- 2: a place that names no event, its byte before 14, or as many events before it as the item has; then the item's own: behind the record's end it is cut short.
abbrev pub place_faults : ℕ → List ℕ → Place → List Fault
place_faults mtu xs p =
    fault 2 (ltb p.at 14) ∷ fault 2 (leb (item_count (bytes_from xs p)) p.gone) ∷ item_faults true mtu (bytes_from xs p)
