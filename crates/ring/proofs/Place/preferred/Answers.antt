-- `Place::preferred` meets its contract: it tests what the definition tests.
-- Assumes nothing.
use mathlib.Core.Path.{◌≡◌}
use native.Mathlib.Omega.{arith}
use borrow.Author.Tests.{eq-eqb, ne_eqb}
use Rattle.ring.specs.Choosing.{preferred_of}
use Rattle.ring.proofs.Place.preferred.Goals as goal

pub returns-in-1 : goal.returns-in-1
unfolding preferred_of
returns-in-1 c = simp (eq-eqb _ _ c.in-1.is)

pub returns-in-2 : goal.returns-in-2
unfolding preferred_of
returns-in-2 c = rw c.in-2.is

pub returns-in_default : goal.returns-in_default
unfolding preferred_of
returns-in_default c =
    let f : c.args.side ≡ 1 → ⊥ = λ e. omega arith in
    let g : c.args.side ≡ 2 → ⊥ = λ e. omega arith in
    simp (ne_eqb _ _ f, ne_eqb _ _ g) c.shorter.ensures
