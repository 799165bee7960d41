-- So many events of a record from a place on, and their summary: what a partly read block is, and what stands between two places.
-- Assumes nothing.
use Rattle.std.specs.Prelude.{ℕ, zero, suc, List, [], Result, Ok, Err}
use Rattle.decide.specs.declared.refusal.Refusal.{Refusal}
use Rattle.decide.specs.Number.{refusal_of}
use Rattle.decide.specs.Refusal.{first_of}
use Rattle.shaper.specs.declared.Limits.{Limits}
use Rattle.summary.specs.declared.Summary.{Summary}
use Rattle.summary.specs.Summary.{summary_of}
use Rattle.record.specs.Read.{Events, faulty, events, onward}
use Rattle.excerpt.specs.declared.Place.{Place}
use Rattle.excerpt.specs.declared.Excerpt.{Excerpt}
use Rattle.excerpt.specs.Place.{event_from, next_place, place_after, place_faults}

-- their summary and the place behind them, or why they have none
abbrev pub Answered : Type 0
Answered = Result Excerpt Refusal

abbrev pub with_place : Summary → Place → Excerpt
with_place s p = record { sum = s; next = p }

abbrev pub summed : Summary → Place → Answered
summed s p = Ok (with_place s p)

-- The earliest fault counts, from the first event to the last of them; what stands behind them is not looked at.
unfoldable pub read_part : ℕ → ℕ → List ℕ → Place → Events
read_part mtu zero xs p = events []
read_part mtu (suc count) xs p = onward (first_of (place_faults mtu xs p)) (event_from xs p) (read_part mtu count xs (next_place xs p))

-- the summary of what was read, or the earliest fault
abbrev pub excerpted : Limits → Place → Events → Answered
excerpted l next (events es) = summed (summary_of l es) next
excerpted l next (faulty n) = Err (refusal_of n)

unfoldable pub excerpt_of : Limits → ℕ → List ℕ → Place → Answered
excerpt_of l count xs p = excerpted l (place_after count xs p) (read_part l.mtu count xs p)
