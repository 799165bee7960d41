-- The refusals by their numbers (document 01, "Refusal numbers"; 12 by document 02, A1 and A8; 13 by A5).
-- Assumes nothing.
use Rattle.std.specs.Prelude.{ℕ, zero, suc, List, [], ◌∷◌}
use Rattle.decide.specs.declared.refusal.Refusal.{Refusal}

abbrev pub number_in : Refusal → ℕ
number_in Refusal.Setting = 1
number_in Refusal.NotWhole = 2
number_in Refusal.OutOfRange = 3
number_in Refusal.NoSpace = 4
number_in Refusal.StageHolds = 5
number_in Refusal.NoCredit = 6
number_in Refusal.OverRate = 7
number_in Refusal.NoWay = 8
number_in Refusal.TooMany = 9
number_in Refusal.Unlike = 10
number_in Refusal.OwnAddress = 11
number_in Refusal.ShortRoom = 12
number_in Refusal.BeyondRing = 13
number_in (Refusal.Other n) = n

-- the refusals in the order of their numbers, from 1
abbrev pub refusals : List Refusal
refusals =
    Refusal.Setting
    ∷ Refusal.NotWhole
    ∷ Refusal.OutOfRange
    ∷ Refusal.NoSpace
    ∷ Refusal.StageHolds
    ∷ Refusal.NoCredit
    ∷ Refusal.OverRate
    ∷ Refusal.NoWay
    ∷ Refusal.TooMany
    ∷ Refusal.Unlike
    ∷ Refusal.OwnAddress
    ∷ Refusal.ShortRoom
    ∷ Refusal.BeyondRing
    ∷ []

-- the one at a place of a list, from 1, or another where there is none
abbrev pub at_place : List Refusal → ℕ → Refusal → Refusal
at_place [] n other = other
at_place (r ∷ rs) zero other = other
at_place (r ∷ rs) (suc zero) other = r
at_place (r ∷ rs) (suc (suc n)) other = at_place rs (suc n) other

-- the refusal of a number
abbrev pub refusal_of : ℕ → Refusal
refusal_of n = at_place refusals n (Refusal.Other n)
