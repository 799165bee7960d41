-- Tests that code joins one by one from the left are their conjunction, which nests to the right.
-- Assumes nothing.
use mathlib.Core.Bool.{Bool, ◌&&◌, and_assoc}
use mathlib.Core.List.{List, [], ◌∷◌}
use mathlib.Core.Path.{◌≡◌, refl, ap, ◌∙◌}
use Rattle.decide.specs.Test.{Test, test, ◌∧?◌}

-- b and each test of the list, from the left
abbrev pub joined : Bool → List Test → Bool
joined b [] = b
joined b (t ∷ ts) = joined (b && test t) ts

abbrev pub all_of : Test → List Test → Test
all_of t [] = t
all_of t (u ∷ us) = t ∧? all_of u us

-- what stands first can be joined last
first_out : (a b : Bool) (ts : List Test) → joined (a && b) ts ≡ (a && joined b ts)
first_out a b [] = refl
first_out a b (t ∷ ts) = ap (λ (x : Bool). joined x ts) (and_assoc a b (test t)) ∙ first_out a (b && test t) ts

pub chain : (t : Test) (ts : List Test) → joined (test t) ts ≡ test (all_of t ts)
unfolding test
chain t [] = refl
chain t (u ∷ us) = first_out (test t) (test u) us ∙ ap (λ (x : Bool). test t && x) (chain u us)
