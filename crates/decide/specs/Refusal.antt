-- Refusals: of several faults, which one counts. A call's faults are rows, and its number is `first_of` of them. Within a record the earliest fault counts
-- instead, and has its own definition (`record`); so has a text in hex.
-- Assumes nothing.
use Rattle.std.specs.Prelude.{ℕ, zero, suc, ◌*◌, ◌≤◌, ◌<◌, Bool, true, cond, not, ◌&&◌, ◌||◌, List, [], ◌∷◌, ◌⊎◌, ◌≡◌, leb, eqb}

-- A row of the refusal table for one call: its place in the order, its number, and whether it applies.
pub record Fault : Type 0 where
  pub rank : ℕ
  pub number : ℕ
  pub applies : Bool

-- Where several apply the order is 2, 1, 3, 11, 10, 9, 4, 5, 6, 7, 8; 13 stands right after 3 and before 11 (document 02, A5), and 12 last (A8).
abbrev pub order : List ℕ
order = 2 ∷ 1 ∷ 3 ∷ 13 ∷ 11 ∷ 10 ∷ 9 ∷ 4 ∷ 5 ∷ 6 ∷ 7 ∷ 8 ∷ 12 ∷ []

-- how many stand before n
abbrev pub place : ℕ → List ℕ → ℕ
place n [] = 0
place n (m ∷ ms) = cond (eqb n m) 0 (suc (place n ms))

-- Ranks are even, so that a row can be set between two of them.
abbrev pub rank_of : ℕ → ℕ
rank_of n = 2 * place n order

-- the row of a number at its place in the order
abbrev pub fault : ℕ → Bool → Fault
fault n b = record { rank = rank_of n; number = n; applies = b }

-- The row that counts, if any: of those that apply, the one of the lowest rank, and of these the first.
pub data First : Type 0 where
  nothing : First
  row : Fault → First

abbrev pub earlier : Fault → First → First
earlier f nothing = row f
earlier f (row g) = cond (leb f.rank g.rank) (row f) (row g)

unfoldable pub first : List Fault → First
first [] = nothing
first (f ∷ fs) = cond f.applies (earlier f (first fs)) (first fs)

-- its number, and 0 where no row applies: the call is carried out
abbrev pub number_of : First → ℕ
number_of nothing = 0
number_of (row f) = f.number

unfoldable pub first_of : List Fault → ℕ
first_of fs = number_of (first fs)

-- Each [refusal] returns its number: what a call comes to by the number of its rows. At 0 it is carried out, at any other number it is the
-- refusal, which is made of that number; what the refusal leaves stands in `refused`.
unfoldable pub refused_or : {A : Type 0} → (ℕ → A) → ℕ → A → A
refused_or refused zero done = done
refused_or refused (suc n) done = refused (suc n)

-- ---- what the laws say of rows

abbrev pub Among : Fault → List Fault → Type 0
Among f [] = ⊥
Among f (g ∷ gs) = (f ≡ g) ⊎ Among f gs

-- a row with the number n applies, and none before it does
pub record Given (fs : List Fault) (n : ℕ) : Type 0 where
  pub cause : Fault
  pub among : Among cause fs
  pub bears : cause.number ≡ n
  pub applies : cause.applies ≡ true
  pub none_before : (g : Fault) → Among g fs → g.applies ≡ true → cause.rank ≤ g.rank

-- "Given exactly when": the number of the rows is n exactly when a row with n applies and none before it does.
pub record GivenExactly (fs : List Fault) (n : ℕ) : Type 0 where
  pub has_cause : first_of fs ≡ n → Given fs n
  pub is_given : Given fs n → first_of fs ≡ n

-- the same of the number that a call answers, which is that of its rows
pub record RefusedExactly (number : ℕ) (fs : List Fault) : Type 0 where
  pub has_cause : (n : ℕ) → 0 < n → number ≡ n → Given fs n
  pub is_given : (n : ℕ) → 0 < n → Given fs n → number ≡ n

-- no row applies
abbrev pub Free : List Fault → Type 0
Free fs = (g : Fault) → Among g fs → g.applies ≡ true → ⊥

-- rows of one rank bear one number
abbrev pub alike : Fault → List Fault → Bool
alike f [] = true
alike f (g ∷ gs) = (not (eqb f.rank g.rank) || eqb f.number g.number) && alike f gs

abbrev pub ranked : List Fault → Bool
ranked [] = true
ranked (f ∷ fs) = alike f fs && ranked fs

-- rows written in the order of their ranks
abbrev pub not_before : ℕ → List Fault → Bool
not_before r [] = true
not_before r (g ∷ gs) = leb r g.rank && not_before r gs

abbrev pub in_order : List Fault → Bool
in_order [] = true
in_order (f ∷ fs) = not_before f.rank fs && in_order fs

-- the number of the first row that applies, as the rows are written
abbrev pub chained : List Fault → ℕ
chained [] = 0
chained (f ∷ fs) = cond f.applies f.number (chained fs)
