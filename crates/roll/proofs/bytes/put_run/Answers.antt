-- A word is its halves (`word_put`), and the puts lay the run's parts one behind the other: `laid_put`.
-- Assumes nothing.
use Prim.Native.Nat.{ℕ, ◌+◌, ◌/◌, ◌%◌}
use mathlib.Core.List.{List, [], ◌∷◌}
use mathlib.Core.Path.{◌≡◌, ap, ◌∙◌}
use native.Mathlib.Nat.{add_assoc}
use native.Mathlib.Omega.{arith}
use lib.ListN.{length}
use Rattle.wire.specs.Parts.{number}
use Rattle.wire.specs.Wire.{digits, put, length_digits}
use Rattle.wire.proofs.Laid.{laid_put}
use Rattle.wire.proofs.Puts.{length_put}
use Rattle.roll.proofs.Laying.{word_put}
use Rattle.roll.proofs.bytes.put_run.Goals as goal

pub returns : goal.returns
returns c =
    let a : _ = c.args in
    let one = put a.s.now a.at (digits 2 10) in
    let two = put one (a.at + 2) (digits 2 4) in
    let first : length one ≡ length a.s.now = length_put a.s.now (digits 2 10) a.at (omega (arith, length_digits 2 10, c.requires)) in
    let long : length two ≡ length a.s.now = length_put one (digits 2 4) (a.at + 2) (omega (arith, length_digits 2 4, first, c.requires)) ∙ first in
    let tick = simp add_assoc at (word_put two (a.at + 4) a.tick (omega (arith, long, c.requires))) in
    rw (c.put16-3.ensures, c.put32.ensures, c.put16-2.ensures, c.put16.ensures)
    (ap (λ (q : List ℕ). put q (a.at + 8) (digits 2 a.count)) tick
    ∙ simp add_assoc at (laid_put (number 2 10 ∷ number 2 4 ∷ number 2 (a.tick % 65536) ∷ number 2 (a.tick / 65536) ∷ number 2 a.count ∷ []) a.s.now a.at c.requires))
