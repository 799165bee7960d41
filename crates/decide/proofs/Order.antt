-- "Where several apply the order is 2, 1, 3, 11, 10, 9, 4, 5, 6, 7, 8", with 13 "right after 3 and before 11", computed: which number is given where all
-- these apply, listed from the lowest on. Of all twelve it is 2, without that one 1, and so on. Assumes nothing.
use Prim.Native.Nat.{ℕ}
use mathlib.Core.Bool.{true}
use mathlib.Core.List.{List, [], ◌∷◌}
use mathlib.Core.Path.{◌≡◌, refl}
use Rattle.decide.specs.Refusal.{Fault, fault, first, first_of}

-- rows of these numbers, each of which applies
abbrev rows : List ℕ → List Fault
rows [] = []
rows (n ∷ ns) = fault n true ∷ rows ns

abbrev pub given_of : List ℕ → ℕ
given_of ns = first_of (rows ns)

pub order_given : (given_of (1 ∷ 2 ∷ 3 ∷ 4 ∷ 5 ∷ 6 ∷ 7 ∷ 8 ∷ 9 ∷ 10 ∷ 11 ∷ 13 ∷ []) ≡ 2)
    × (given_of (1 ∷ 3 ∷ 4 ∷ 5 ∷ 6 ∷ 7 ∷ 8 ∷ 9 ∷ 10 ∷ 11 ∷ 13 ∷ []) ≡ 1)
    × (given_of (3 ∷ 4 ∷ 5 ∷ 6 ∷ 7 ∷ 8 ∷ 9 ∷ 10 ∷ 11 ∷ 13 ∷ []) ≡ 3)
    × (given_of (4 ∷ 5 ∷ 6 ∷ 7 ∷ 8 ∷ 9 ∷ 10 ∷ 11 ∷ 13 ∷ []) ≡ 13)
    × (given_of (4 ∷ 5 ∷ 6 ∷ 7 ∷ 8 ∷ 9 ∷ 10 ∷ 11 ∷ []) ≡ 11)
    × (given_of (4 ∷ 5 ∷ 6 ∷ 7 ∷ 8 ∷ 9 ∷ 10 ∷ []) ≡ 10)
    × (given_of (4 ∷ 5 ∷ 6 ∷ 7 ∷ 8 ∷ 9 ∷ []) ≡ 9)
    × (given_of (4 ∷ 5 ∷ 6 ∷ 7 ∷ 8 ∷ []) ≡ 4)
    × (given_of (5 ∷ 6 ∷ 7 ∷ 8 ∷ []) ≡ 5)
    × (given_of (6 ∷ 7 ∷ 8 ∷ []) ≡ 6)
    × (given_of (7 ∷ 8 ∷ []) ≡ 7)
    × (given_of (8 ∷ []) ≡ 8)
unfolding first_of first
order_given = (refl, refl, refl, refl, refl, refl, refl, refl, refl, refl, refl, refl)
