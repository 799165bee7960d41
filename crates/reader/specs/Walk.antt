-- A reader walks the lent bytes of a record, in either form, and remembers its place.
-- Assumes nothing.
use Rattle.std.specs.Prelude.{ℕ, zero, suc, List, [], Some, None, Ok, Err}
use Rattle.std.specs.Borrow.{Bor}
use Rattle.decide.specs.Number.{number_in}
use Rattle.shaper.specs.Kind.{event_of}
use Rattle.record.specs.Step.{Step}
use Rattle.record.specs.Read.{Events, faulty, events, ahead}
use Rattle.reader.specs.declared.Reader.{Reader}
use Rattle.reader.specs.Place.{start, next_at, after_at}

abbrev pub new_of : Bor (List ℕ) → Reader
new_of s = record { bytes = s; place = start }

abbrev pub next_of : Reader → Step
next_of r = next_at r.bytes.now r.place

abbrev pub moved_of : Reader → Reader
moved_of r = record { bytes = r.bytes; place = after_at r.bytes.now r.place }

-- an item's events stand before those of the walk behind it; the end and a fault end the walk
abbrev pub told : Step → Events → Events
told (Ok (Some i)) rest = ahead i.count (event_of i.kind i.number) rest
told (Ok None) rest = events []
told (Err r) rest = faulty (number_in r)

-- The walk: what `next` tells, then the walk of the reader moved on, for at most so many turns.
unfoldable pub walk_of : ℕ → Reader → Events
walk_of zero r = events []
walk_of (suc n) r = told (next_of r) (walk_of n (moved_of r))
