-- Each turn compares one event more with the first; whatever the events are that stand there, n of them were found equal.
-- Assumes nothing.
use Prim.Native.Nat.{◌+◌, ◌≤◌}
use mathlib.Core.List.{List, ◌∷◌}
use mathlib.Core.Path.{◌≡◌}
use lib.ListN.{length, drop}
use Rattle.shaper.specs.declared.Event.{Event}
use Rattle.wire.specs.Wire.{le}
use Rattle.record.specs.Record.{events_bytes}
use Rattle.roll.specs.Steps.{AllFit}
use Rattle.roll.proofs.Ahead.{Found}
use Rattle.roll.proofs.same_ahead.Given as goal

abbrev pub invariant-loop-n : goal.invariant-loop-n
invariant-loop-n l =
    (1 ≤ l.n) × (l.at ≤ length l.s) × (l.head ≡ le 4 l.s l.from) × (l.number ≡ le 2 l.s (l.from + 4)) × (l.head ≡ 196614 → ⊥)
    × ((e : Event) (es : List Event) → drop l.from l.s ≡ events_bytes (e ∷ es) → AllFit (e ∷ es) → Found l.s l.from l.n l.at e es)
