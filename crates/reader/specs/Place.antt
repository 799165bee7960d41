-- What a reader finds at a place of a record, in either form, and where it goes from there.
-- Assumes nothing.
use Rattle.std.specs.Prelude.{ℕ, ◌+◌, ◌-◌, ◌≤◌, ◌<◌, true, List, ◌≡◌, length, drop, Some, None, Ok, Err}
use Rattle.decide.specs.Refusal.{Given, first_of}
use Rattle.decide.specs.Number.{refusal_of}
use Rattle.shaper.specs.declared.Limits.{Limits}
use Rattle.shaper.specs.Limits.{most_events}
use Rattle.record.specs.Read.{header_faults, item_faults, item_count}
use Rattle.record.specs.Step.{Header, Step, header_of_of, step_within}
use Rattle.reader.specs.declared.Place.{Place}

-- the first item stands behind the header's 14 bytes, and no event before it
abbrev pub start : Place
start = record { at = 14; done = 0 }

-- header first: its fault is what a reader finds, wherever it stands; any byte after the millionth event gives 9, and so does a run that passes it
abbrev pub next_by : Header → List ℕ → Place → Step
next_by (Ok l) xs p = step_within (refusal_of 9) (most_events - p.done) l.mtu xs p.at
next_by (Err r) xs p = Err r

unfoldable pub next_at : List ℕ → Place → Step
next_at xs p = next_by (header_of_of xs) xs p

-- a reader goes on behind an item, its events then being passed; at the end and at a fault it stays
abbrev pub after : Step → Place → Place
after (Ok (Some i)) p = record { at = i.next; done = p.done + i.count }
after (Ok None) p = p
after (Err r) p = p

abbrev pub after_at : List ℕ → Place → Place
after_at xs p = after (next_at xs p) p

-- What is wrong at a place: a fault of the header first, then a byte after the millionth event, then a fault of the item, then a run without one that passes the million.
pub data Wrong (xs : List ℕ) (p : Place) (n : ℕ) : Type 0 where
  in_header : Given (header_faults xs) n → Wrong xs p n
  too_many : (l : Limits) → header_of_of xs ≡ Ok l → most_events ≤ p.done → p.at < length xs → n ≡ 9 → Wrong xs p n
  has_fault : (l : Limits) → header_of_of xs ≡ Ok l → p.done < most_events → p.at < length xs → Given (item_faults true l.mtu (drop p.at xs)) n → Wrong xs p n
  passes : (l : Limits) → header_of_of xs ≡ Ok l → p.done < most_events → p.at < length xs → first_of (item_faults true l.mtu (drop p.at xs)) ≡ 0 →
      most_events < p.done + item_count (drop p.at xs) → n ≡ 9 → Wrong xs p n
