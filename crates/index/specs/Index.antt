-- The index of a record (document 02, A1): an entry for each block and for each pair above, in order.
-- Assumes nothing.
use Rattle.std.specs.Prelude.{ℕ, zero, suc, ◌+◌, ◌-◌, ◌*◌, true, cond, List, [], ◌++◌, leb, ltb, eqb, length, take, drop, Ok, Err}
use Rattle.decide.specs.Number.{refusal_of}
use Rattle.shaper.specs.declared.Limits.{Limits}
use Rattle.shaper.specs.declared.Event.{Event}
use Rattle.shaper.specs.Limits.{most_events}
use Rattle.summary.specs.declared.Summary.{Summary}
use Rattle.summary.specs.Summary.{summary_of}
use Rattle.record.specs.Read.{Read, unreadable, whole, read_in}
use Rattle.excerpt.specs.declared.Place.{Place}
use Rattle.excerpt.specs.Place.{first_place, place_after}
use Rattle.roll.specs.Moved.{Moved, Output, refused, bytes}
use Rattle.index.specs.Tree.{block_events, top_level, size_of, from_of, to_of, index_length}
use Rattle.index.specs.Entry.{entry_bytes}

-- the events from one on to just before another
abbrev pub piece_of : List Event → ℕ → ℕ → List Event
piece_of es from to = take (to - from) (drop from es)

-- what a record has been read as: its events, none where it has a fault
abbrev pub events_read : Read → List Event
events_read (unreadable n) = []
events_read (whole l es) = es

unfoldable pub events_in : List ℕ → List Event
events_in xs = events_read (read_in true xs)

-- the place of an event in a record
unfoldable pub place_of : List ℕ → ℕ → Place
place_of xs i = place_after i xs first_place

-- the summary of a node's events
abbrev pub node_summary : Limits → List Event → ℕ → ℕ → Summary
node_summary l es k x = summary_of l (piece_of es (from_of x) (to_of (length es) k x))

-- and its entry: the first event's place, and that summary
abbrev pub node_entry : Limits → List ℕ → List Event → ℕ → ℕ → List ℕ
node_entry l xs es k x = entry_bytes (place_of xs (from_of x)) (node_summary l es k x)

-- the entries of all that a node covers, in order: those of its first half, its own, and those of its second; an odd one alone is stored once
unfoldable pub node_bytes : Limits → List ℕ → List Event → ℕ → ℕ → List ℕ
node_bytes l xs es zero x = node_entry l xs es 0 x
node_bytes l xs es (suc k) x =
    cond (ltb (block_events * (x + size_of k)) (length es))
    (node_bytes l xs es k x ++ (node_entry l xs es (suc k) x ++ node_bytes l xs es k (x + size_of k)))
    (node_bytes l xs es k x)

-- the index of a record of these settings and events: of none, no byte
unfoldable pub index_bytes : Limits → List ℕ → List Event → List ℕ
index_bytes l xs es = cond (eqb (length es) 0) [] (node_bytes l xs es top_level 0)

-- what rpr_index leaves in the room, or the number of the record's earliest fault
abbrev pub index_read : List ℕ → Read → Output
index_read xs (unreadable n) = refused n
index_read xs (whole l es) = bytes (index_bytes l xs es)

unfoldable pub index_of : List ℕ → Output
index_of xs = index_read xs (read_in true xs)

-- how many bytes an index of so many events takes; 9 over 1,000,000
unfoldable pub length_answer : ℕ → Moved
length_answer n = cond (leb n most_events) (Ok (index_length n)) (Err (refusal_of 9))
