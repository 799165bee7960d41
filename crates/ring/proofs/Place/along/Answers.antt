-- `Place::along` meets its contract: field by field.
-- Assumes nothing.
use mathlib.Core.Path.{refl}
use borrow.Author.Tests.{eq-eqb, ne_eqb}
use Rattle.ring.specs.Choosing.{along_of}
use Rattle.ring.proofs.Place.along.Goals as goal

pub returns-then-protection-ne-UNPROTECTED : goal.returns-then-protection-ne-UNPROTECTED
unfolding along_of
returns-then-protection-ne-UNPROTECTED c =
    rw (c.code.ensures, c.ttl.ensures, c.distance-distance.ensures, ne_eqb _ _ c.if-protection-ne-UNPROTECTED.true) refl

pub returns-else-protection-ne-UNPROTECTED : goal.returns-else-protection-ne-UNPROTECTED
unfolding along_of
returns-else-protection-ne-UNPROTECTED c =
    rw (c.code.ensures, c.ttl.ensures, c.distance-distance.ensures, eq-eqb _ _ c.if-protection-ne-UNPROTECTED.false) refl
