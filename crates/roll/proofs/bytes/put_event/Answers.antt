-- A word is its halves (`word_put`), and the puts lay the event's parts one behind the other: `laid_put`.
-- Assumes nothing.
use Prim.Native.Nat.{◌+◌, ◌/◌, ◌%◌}
use mathlib.Core.List.{[], ◌∷◌}
use mathlib.Core.Path.{◌≡◌, ◌∙◌}
use native.Mathlib.Omega.{arith}
use lib.ListN.{length}
use Rattle.wire.specs.Parts.{number}
use Rattle.wire.specs.Wire.{digits, put, length_digits}
use Rattle.wire.proofs.Laid.{laid_put}
use Rattle.wire.proofs.Puts.{length_put}
use Rattle.roll.proofs.Laying.{word_put}
use Rattle.roll.proofs.bytes.put_event.Goals as goal

pub returns : goal.returns
returns c =
    let a : _ = c.args in
    let long : length (put a.s.now a.at (digits 2 6)) ≡ length a.s.now = length_put a.s.now (digits 2 6) a.at (omega (arith, length_digits 2 6, c.requires)) in
    rw (c.put32.ensures, c.put16.ensures)
    (word_put (put a.s.now a.at (digits 2 6)) (a.at + 2) a.event (omega (arith, long, c.requires))
    ∙ laid_put (number 2 6 ∷ number 2 (a.event % 65536) ∷ number 2 (a.event / 65536) ∷ []) a.s.now a.at c.requires)
