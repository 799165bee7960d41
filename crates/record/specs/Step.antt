-- What a reader of lent bytes finds at the front, and at each place.
-- Assumes nothing.
use Rattle.std.specs.Prelude.{ℕ, zero, suc, ◌+◌, Bool, true, cond, List, [], ◌∷◌, leb, length, drop, Option, Some, None, Result, Ok, Err}
use Rattle.decide.specs.declared.refusal.Refusal.{Refusal}
use Rattle.decide.specs.Number.{number_in, refusal_of}
use Rattle.decide.specs.Refusal.{first_of}
use Rattle.shaper.specs.declared.Limits.{Limits}
use Rattle.record.specs.declared.Placed.{Placed}
use Rattle.record.specs.Read.{limits_at, header_faults, length_at, item_faults, item_kind, item_number, item_count}

-- the settings that a header bears, or its fault
abbrev pub Header : Type 0
Header = Result Limits Refusal

-- what stands at a place: an item (Some), the end (None), or a fault
abbrev pub Step : Type 0
Step = Result (Option Placed) Refusal

-- an item's kind and number, how many events it stands for and where the next begins
abbrev pub placed : ℕ → ℕ → ℕ → ℕ → Placed
placed k v c n = record { kind = k; number = v; count = c; next = n }

abbrev pub headed : ℕ → List ℕ → Header
headed zero xs = Ok (limits_at xs)
headed (suc n) xs = Err (refusal_of (suc n))

unfoldable pub header_of_of : List ℕ → Header
header_of_of xs = headed (first_of (header_faults xs)) xs

-- what a test of a fault answers: nothing, or the refusal of its number
abbrev pub passed : ℕ → Result (Unit {0}) Refusal
passed zero = Ok tt
passed (suc n) = Err (refusal_of (suc n))

-- what an item stands for, and how many times; the next begins behind its stated length
abbrev pub stepped : ℕ → List ℕ → ℕ → Step
stepped zero xs at = Ok (Some (placed (item_kind (drop at xs)) (item_number (drop at xs)) (item_count (drop at xs)) (at + length_at (drop at xs))))
stepped (suc n) xs at = Err (refusal_of (suc n))

-- `runs` says whether runs may stand
unfoldable pub item_at : Bool → ℕ → List ℕ → ℕ → Step
item_at runs mtu xs at = cond (leb (length xs) at) (Ok None) (stepped (first_of (item_faults runs mtu (drop at xs))) xs at)

-- the same where `left` more events may come: any byte after the last of them gives `late`, and so does an item that stands for more than may come
abbrev pub within : Refusal → ℕ → Step → Step
within late left (Ok (Some p)) = cond (leb p.count left) (Ok (Some p)) (Err late)
within late left (Ok None) = Ok None
within late zero (Err r) = Err late
within late (suc left) (Err r) = Err r

unfoldable pub item_within : Bool → Refusal → ℕ → ℕ → List ℕ → ℕ → Step
item_within runs late left mtu xs at = within late left (item_at runs mtu xs at)

-- wherever a record is read both forms are, but where an old one is moved
abbrev pub step_at : ℕ → List ℕ → ℕ → Step
step_at mtu xs at = item_at true mtu xs at

abbrev pub step_within : Refusal → ℕ → ℕ → List ℕ → ℕ → Step
step_within late left mtu xs at = item_within true late left mtu xs at

-- ---- document 01's number and values of each answer

-- the header: 0 with mtu, loLimit and hiLimit, or its fault's number alone
abbrev pub header_number : Header → ℕ
header_number (Ok l) = 0
header_number (Err r) = number_in r

abbrev pub header_values : Header → List ℕ
header_values (Ok l) = l.mtu ∷ l.lo ∷ l.hi ∷ []
header_values (Err r) = []

-- a place: 0 with the item's kind, its amount or size and how many events it stands for, 0 alone at the end, or the fault's number alone
abbrev pub step_number : Step → ℕ
step_number (Ok (Some p)) = 0
step_number (Ok None) = 0
step_number (Err r) = number_in r

abbrev pub step_values : Step → List ℕ
step_values (Ok (Some p)) = p.kind ∷ p.number ∷ p.count ∷ []
step_values (Ok None) = []
step_values (Err r) = []
