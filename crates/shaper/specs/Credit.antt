-- The credit of a shaper, event by event.
-- Assumes nothing.
use Rattle.std.specs.Prelude.{ℕ, ◌+◌, ◌-◌, ◌≤◌, ◌<◌, min, Bool, true, false, List, [], ◌∷◌, ltb}
use Rattle.decide.specs.Test.{Test, ◌≤?◌}
use Rattle.decide.specs.Size.{size_ok}
use Rattle.shaper.specs.declared.Limits.{Limits}
use Rattle.shaper.specs.declared.Event.{Event}
use Rattle.shaper.specs.declared.Event.TheVariants.{Waiting, Idle, Send}
use Rattle.shaper.specs.Limits.{most_amount}

-- Amount per tick 0 to 65,535; frame size 16 to mtu.
abbrev pub event_ok : Limits → Event → Test
event_ok l (Waiting x) = x ≤? most_amount
event_ok l (Idle x) = x ≤? most_amount
event_ok l (Send z) = size_ok z l.mtu

-- the same as facts (`valid_exactly`, proofs/Ranges.antt)
abbrev pub Valid : Limits → Event → Type 0
Valid l (Waiting x) = x ≤ most_amount
Valid l (Idle x) = x ≤ most_amount
Valid l (Send z) = (16 ≤ z) × (z ≤ l.mtu)

abbrev pub AllValid : Limits → List Event → Type 0
AllValid l [] = Unit {0}
AllValid l (e ∷ es) = Valid l e × AllValid l es

-- A send is permitted exactly when credit > loLimit.
abbrev pub permits : ℕ → ℕ → Bool
permits credit lo = ltb lo credit

-- The host's tick says whether traffic waits.
abbrev pub tick_of : Bool → ℕ → Event
tick_of true x = Waiting x
tick_of false x = Idle x

-- A tick adds the amount; while traffic waits the sum is cut to hiLimit, otherwise to loLimit. A send takes its size off.
abbrev pub next : Limits → ℕ → Event → ℕ
next l c (Waiting x) = min (c + x) l.hi
next l c (Idle x) = min (c + x) l.lo
next l c (Send z) = c - z

-- whether the event may happen at this credit: a tick always, a send exactly when credit > loLimit
abbrev pub Allowed : Limits → ℕ → Event → Type 0
Allowed l c (Waiting x) = Unit {0}
Allowed l c (Idle x) = Unit {0}
Allowed l c (Send z) = l.lo < c

-- From credit c, event by event: every send is permitted at its place,
abbrev pub Permitted : Limits → ℕ → List Event → Type 0
Permitted l c [] = Unit {0}
Permitted l c (e ∷ es) = Allowed l c e × Permitted l (next l c e) es

-- and the credit at the end.
abbrev pub end_credit : Limits → ℕ → List Event → ℕ
end_credit l c [] = c
end_credit l c (e ∷ es) = end_credit l (next l c e) es

-- the bytes that ticks brought, and the bytes that were sent
abbrev pub accrued_of : List Event → ℕ
accrued_of [] = 0
accrued_of (Waiting x ∷ es) = x + accrued_of es
accrued_of (Idle x ∷ es) = x + accrued_of es
accrued_of (Send z ∷ es) = accrued_of es

abbrev pub sent_of : List Event → ℕ
sent_of [] = 0
sent_of (Waiting x ∷ es) = sent_of es
sent_of (Idle x ∷ es) = sent_of es
sent_of (Send z ∷ es) = z + sent_of es
