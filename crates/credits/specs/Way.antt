-- How a client frame goes into the stage: which shapers it needs and charges, its mark, and which way that is.
-- Assumes nothing.
use Rattle.std.specs.Prelude.{ℕ, cond, ◌&&◌, List, [], ◌∷◌, eqb}
use Rattle.settings.specs.declared.Settings.{Settings}
use Rattle.credits.specs.declared.Credits.{Credits}
use Rattle.credits.specs.declared.Way.{Way}
use Rattle.credits.specs.declared.Way.TheVariants.{ClassA, ClassB, Excess}
use Rattle.credits.specs.declared.Which.{Which}
use Rattle.credits.specs.declared.Which.TheVariants.{A, B, C, D}
use Rattle.credits.specs.Which.{permits_all}

-- Client A needs and charges A. Client B needs and charges B and D. Excess B and C need C and D, charge both,
abbrev pub needs_of : Way → List Which
needs_of ClassA = A ∷ []
needs_of ClassB = B ∷ D ∷ []
needs_of Excess = C ∷ D ∷ []

-- and are marked eligible.
abbrev pub mark_of : Way → ℕ
mark_of ClassA = 0
mark_of ClassB = 0
mark_of Excess = 1

-- Client B .. failing that it is tried as excess.
unfoldable pub way_of : Settings → Credits → ℕ → Way
way_of s c class = cond (eqb class 0) ClassA (cond (eqb class 1 && permits_all s c (needs_of ClassB)) ClassB Excess)
