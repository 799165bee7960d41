-- Class A, then B within its own rate, which is where its shapers lack nothing; what is left is excess.
-- Assumes nothing.
use mathlib.Core.Path.{sym}
use borrow.Author.Tests.{eq-eqb, ne_eqb}
use Rattle.credits.specs.Way.{way_of}
use Rattle.credits.proofs.Short.{permits_by}
use Rattle.credits.proofs.Credits.way.Goals as goal

pub returns-then-class-eq-CLASS_A : goal.returns-then-class-eq-CLASS_A
unfolding way_of
returns-then-class-eq-CLASS_A c = rw (eq-eqb _ 0 c.if-class-eq-CLASS_A.true)

pub returns-then-class-short_all : goal.returns-then-class-short_all
unfolding way_of
returns-then-class-short_all c = rw (ne_eqb _ 0 c.if-class-eq-CLASS_A.false, permits_by _ _ _, sym c.short_all.ensures, c.if-class-short_all.true)

pub returns : goal.returns
unfolding way_of
returns c = rw (ne_eqb _ 0 c.if-class-eq-CLASS_A.false, permits_by _ _ _, sym c.short_all.ensures, c.if-class-short_all.false)
