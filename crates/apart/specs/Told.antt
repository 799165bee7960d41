-- Where two records part: the list of what differs in their events, position by position.
-- Assumes nothing.
use Rattle.std.specs.Prelude.{ℕ, suc, ◌≤◌, ◌<◌, Bool, true, false, not, ◌||◌, List, [], ◌∷◌, ◌⊎◌, ◌↔◌, ◌≡◌, eqb, length}
use Rattle.shaper.specs.declared.Event.{Event}
use Rattle.shaper.specs.Kind.{kind_of, number_of}

-- What is listed of a position: both events, the first record's before the second's, or the event that only one record has.
pub data Told : Type 0 where
  both : ℕ → Event → Event → Told
  first_only : ℕ → Event → Told
  second_only : ℕ → Event → Told

-- "each place where kind or number differs"
unfoldable pub differ : Event → Event → Bool
differ e f = not (eqb (kind_of e) (kind_of f)) || not (eqb (number_of e) (number_of f))

-- one more, where it is to be listed
abbrev pub listed_if : Bool → Told → List Told → List Told
listed_if true t ts = t ∷ ts
listed_if false t ts = ts

-- "in event order, each place where kind or number differs, with both values; then the events that only the longer one has"; "Compare by position only."
-- The first argument is the position of the first event of each list.
unfoldable pub list_from : ℕ → List Event → List Event → List Told
list_from n [] [] = []
list_from n (e ∷ es) [] = first_only n e ∷ list_from (suc n) es []
list_from n [] (f ∷ fs) = second_only n f ∷ list_from (suc n) [] fs
list_from n (e ∷ es) (f ∷ fs) = listed_if (differ e f) (both n e f) (list_from (suc n) es fs)

-- the list of two records, of these events: positions count from 0
abbrev pub list_of : List Event → List Event → List Told
list_of es fs = list_from 0 es fs

-- ---- what the laws of the list speak of

-- an event stands at a position of a list of events, counted from 0
pub data At : List Event → ℕ → Event → Type 0 where
  here : {e : Event} {es : List Event} → At (e ∷ es) 0 e
  behind : {d e : Event} {es : List Event} {n : ℕ} → At es n e → At (d ∷ es) (suc n) e

-- it is among what is listed
pub data Listed (t : Told) : List Told → Type 0 where
  first : {ts : List Told} → Listed t (t ∷ ts)
  later : {u : Told} {ts : List Told} → Listed t ts → Listed t (u ∷ ts)

-- the list holds every difference and no others
pub record ListsExactly (es fs : List Event) : Type 0 where
  -- both events of a position exactly if they stand there and differ in kind or number,
  pub differing : (n : ℕ) (e f : Event) → Listed (both n e f) (list_of es fs)
      ↔ (At es n e × At fs n f × ((kind_of e ≡ kind_of f → ⊥) ⊎ (number_of e ≡ number_of f → ⊥)))
  -- and an event alone exactly if it stands there and the other record has none at that position
  pub only_first : (n : ℕ) (e : Event) → Listed (first_only n e) (list_of es fs) ↔ (At es n e × (length fs ≤ n))
  pub only_second : (n : ℕ) (f : Event) → Listed (second_only n f) (list_of es fs) ↔ (At fs n f × (length es ≤ n))

-- the position that a line is of
abbrev pub position_of : Told → ℕ
position_of (both n e f) = n
position_of (first_only n e) = n
position_of (second_only n f) = n

-- in event order: each position is before those of all that is listed behind it
abbrev pub InOrder : List Told → Type 0
InOrder [] = Unit {0}
InOrder (t ∷ ts) = ((u : Told) → Listed u ts → position_of t < position_of u) × InOrder ts
