-- An event as a kind and a number, as a record writes it.
-- Assumes nothing.
use Rattle.std.specs.Prelude.{ℕ, cond, eqb}
use Rattle.shaper.specs.declared.Event.{Event}
use Rattle.shaper.specs.declared.Event.TheVariants.{Waiting, Idle, Send}

-- Kind 1 tick while waiting, kind 2 tick while idle, kind 3 send.
abbrev pub kind_of : Event → ℕ
kind_of (Waiting x) = 1
kind_of (Idle x) = 2
kind_of (Send z) = 3

-- the amount of a tick, the size of a send
abbrev pub number_of : Event → ℕ
number_of (Waiting x) = x
number_of (Idle x) = x
number_of (Send z) = z

-- the event of a kind from 1 to 3 and a number
unfoldable pub event_of : ℕ → ℕ → Event
event_of k n = cond (eqb k 1) (Waiting n) (cond (eqb k 2) (Idle n) (Send n))
