-- What any bytes say as a record: its settings and events, or the number of the earliest fault.
-- Assumes nothing.
use Rattle.std.specs.Prelude.{ℕ, zero, suc, Bool, true, not, ◌&&◌, cond, List, [], ◌∷◌, leb, ltb, eqb, length, drop}
use Rattle.decide.specs.Test.{Test, ◌≤?◌, ◌<?◌, ◌≡?◌, ◌∧?◌, ◌∨?◌, test}
use Rattle.decide.specs.Size.{size_ok}
use Rattle.decide.specs.Refusal.{Fault, fault, first_of}
use Rattle.wire.specs.Wire.{le}
use Rattle.shaper.specs.declared.Limits.{Limits}
use Rattle.shaper.specs.declared.Event.{Event}
use Rattle.shaper.specs.Limits.{limits_ok, most_events}
use Rattle.shaper.specs.Kind.{event_of}

-- ---- the header

-- Kind 16, length 14, first and once: mtu 2, loLimit 4, hiLimit 4.
abbrev pub limits_at : List ℕ → Limits
limits_at xs = record { mtu = le 2 xs 4; lo = le 4 xs 6; hi = le 4 xs 10 }

-- 2: fewer bytes than the header, or another length or kind. 1: a setting is outside its range.
abbrev pub header_faults : List ℕ → List Fault
header_faults xs =
    fault 2 (ltb (length xs) 14)
    ∷ fault 2 (not (eqb (le 2 xs 0) 14))
    ∷ fault 2 (not (eqb (le 2 xs 2) 16))
    ∷ fault 1 (not (test (limits_ok (limits_at xs))))
    ∷ []

-- ---- an item

-- Events, length 6: length, kind and number, 2 bytes each. The next item begins behind the stated length.
abbrev pub length_at : List ℕ → ℕ
length_at xs = le 2 xs 0

abbrev pub kind_at : List ℕ → ℕ
kind_at xs = le 2 xs 2

abbrev pub number_at : List ℕ → ℕ
number_at xs = le 2 xs 4

-- 2: another length, or no event's kind (a second header's too). 3: a send's size is not 16 to mtu.
abbrev pub field_faults : ℕ → ℕ → ℕ → ℕ → List Fault
field_faults mtu len kind num =
    fault 2 (not (eqb len 6))
    ∷ fault 2 (not (leb 1 kind && leb kind 3))
    ∷ fault 3 (eqb kind 3 && not (test (size_ok num mtu)))
    ∷ []

-- the number of their fault, or 0
unfoldable pub field_fault : ℕ → ℕ → ℕ → ℕ → ℕ
field_fault mtu len kind num = first_of (field_faults mtu len kind num)

-- 2: cut short; then those of its fields.
abbrev pub event_faults : ℕ → List ℕ → List Fault
event_faults mtu xs = fault 2 (ltb (length xs) 6) ∷ field_faults mtu (length_at xs) (kind_at xs) (number_at xs)

-- ---- a run (document 02, A8)

-- Kind 4, length 10: a tick kind (2, being 1 or 2), an amount (2), a count (2, from 2 to 65,535).
unfoldable pub is_run : List ℕ → Bool
is_run xs = eqb (kind_at xs) 4

-- 2: another length; a tick kind other than 1 or 2; a count below 2.
abbrev pub run_field_faults : ℕ → ℕ → ℕ → List Fault
run_field_faults len tick count =
    fault 2 (not (eqb len 10))
    ∷ fault 2 (not (leb 1 tick && leb tick 2))
    ∷ fault 2 (ltb count 2)
    ∷ []

-- the number of their fault, or 0
unfoldable pub run_field_fault : ℕ → ℕ → ℕ → ℕ
run_field_fault len tick count = first_of (run_field_faults len tick count)

-- 2: cut short; then those of its fields.
abbrev pub run_faults : List ℕ → List Fault
run_faults xs = fault 2 (ltb (length xs) 10) ∷ run_field_faults (length_at xs) (le 2 xs 4) (le 2 xs 8)

-- The faults of the item at the front. Where no run may stand, in a record of the old form, an item of kind 4 is no event.
unfoldable pub item_faults : Bool → ℕ → List ℕ → List Fault
item_faults runs mtu xs = cond (runs && is_run xs) (run_faults xs) (event_faults mtu xs)

-- the kind and the number of its events, and how many it stands for: a run for as many as its count, an event for one
unfoldable pub item_kind : List ℕ → ℕ
item_kind xs = cond (is_run xs) (le 2 xs 4) (kind_at xs)

unfoldable pub item_number : List ℕ → ℕ
item_number xs = cond (is_run xs) (le 2 xs 6) (number_at xs)

unfoldable pub item_count : List ℕ → ℕ
item_count xs = cond (is_run xs) (le 2 xs 8) 1

-- whether an event's fields have no fault, in one test: length 6, kind 1 to 3, and a send's size 16 to mtu
abbrev pub good : ℕ → ℕ → ℕ → ℕ → Test
good mtu len kind num = len ≡? 6 ∧? ((1 ≤? kind ∧? kind ≤? 3) ∧? (kind <? 3 ∨? size_ok num mtu))

-- ---- all events

pub data Events : Type 0 where
  faulty : ℕ → Events
  events : List Event → Events

-- an event before the others, where neither it nor they have a fault; its own fault is the earlier
abbrev pub onward : ℕ → Event → Events → Events
onward zero e (events es) = events (e ∷ es)
onward zero e (faulty n) = faulty n
onward (suc n) e r = faulty (suc n)

-- so many of an event before the others
abbrev pub ahead : ℕ → Event → Events → Events
ahead zero e r = r
ahead (suc count) e r = onward 0 e (ahead count e r)

-- Behind an event of the item at the front, of which `gone` have gone by, stands the item's next event, and behind its last what is behind its stated length.
abbrev pub gone_behind : ℕ → List ℕ → ℕ
gone_behind gone xs = cond (ltb (suc gone) (item_count xs)) (suc gone) 0

abbrev pub bytes_behind : ℕ → List ℕ → List ℕ
bytes_behind gone xs = cond (ltb (suc gone) (item_count xs)) xs (drop (length_at xs) xs)

-- Within a record the earliest fault counts. `left` more events may come, and any byte after the last of them gives `late`; so does a run that passes them. Each turn
-- takes one event. `runs` says whether runs may stand.
unfoldable pub read_items : Bool → ℕ → ℕ → ℕ → ℕ → List ℕ → Events
read_items runs late mtu zero gone [] = events []
read_items runs late mtu zero gone (x ∷ xs) = faulty late
read_items runs late mtu (suc left) gone [] = events []
read_items runs late mtu (suc left) gone (x ∷ xs) =
    onward (first_of (item_faults runs mtu (x ∷ xs))) (event_of (item_kind (x ∷ xs)) (item_number (x ∷ xs)))
    (read_items runs late mtu left (gone_behind gone (x ∷ xs)) (bytes_behind gone (x ∷ xs)))

-- wherever a record is read both forms are, but where an old one is moved
abbrev pub read_from : ℕ → ℕ → ℕ → ℕ → List ℕ → Events
read_from late mtu left gone xs = read_items true late mtu left gone xs

-- ---- the whole

pub data Read : Type 0 where
  unreadable : ℕ → Read
  whole : Limits → List Event → Read

abbrev pub under : Limits → Events → Read
under l (faulty n) = unreadable n
under l (events es) = whole l es

-- header first; any byte after the millionth event gives 9
abbrev pub opened_in : Bool → ℕ → List ℕ → Read
opened_in runs zero xs = under (limits_at xs) (read_items runs 9 (le 2 xs 4) most_events 0 (drop 14 xs))
opened_in runs (suc n) xs = unreadable (suc n)

unfoldable pub read_in : Bool → List ℕ → Read
read_in runs xs = opened_in runs (first_of (header_faults xs)) xs

abbrev pub read_record : List ℕ → Read
read_record xs = read_in true xs
