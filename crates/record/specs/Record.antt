-- A shaper record as bytes: what its writer writes.
-- Assumes nothing.
use Rattle.std.specs.Prelude.{ℕ, ◌≤◌, List, [], ◌∷◌, ◌++◌, length}
use Rattle.decide.specs.Test.{Holds}
use Rattle.wire.specs.Parts.{Part, number, laid_out}
use Rattle.shaper.specs.declared.Limits.{Limits}
use Rattle.shaper.specs.declared.Event.{Event}
use Rattle.shaper.specs.Limits.{limits_ok, most_events}
use Rattle.shaper.specs.Credit.{AllValid}
use Rattle.shaper.specs.Kind.{kind_of, number_of}

-- Records: length (2, of the whole), kind (2), payload, little-endian. Kind 16, length 14, first and once: mtu 2, loLimit 4, hiLimit 4.
abbrev pub header_parts : Limits → List Part
header_parts l = number 2 14 ∷ number 2 16 ∷ number 2 l.mtu ∷ number 4 l.lo ∷ number 4 l.hi ∷ []

-- Events, length 6: kind 1 tick while waiting (amount 2), kind 2 tick while idle (amount 2), kind 3 send (size 2).
abbrev pub event_parts : Event → List Part
event_parts e = number 2 6 ∷ number 2 (kind_of e) ∷ number 2 (number_of e) ∷ []

unfoldable pub header_bytes : Limits → List ℕ
header_bytes l = laid_out (header_parts l)

unfoldable pub event_bytes : Event → List ℕ
event_bytes e = laid_out (event_parts e)

abbrev pub events_bytes : List Event → List ℕ
events_bytes [] = []
events_bytes (e ∷ es) = event_bytes e ++ events_bytes es

-- A piece of a cut record is that record's header followed by the piece's events.
abbrev pub written : Limits → List Event → List ℕ
written l es = header_bytes l ++ events_bytes es

-- what may be written: settings and events in range, at most 1,000,000 events
pub record WellFormed (l : Limits) (es : List Event) : Type 0 where
  pub settings : Holds (limits_ok l)
  pub valid : AllValid l es
  pub few : length es ≤ most_events
