-- Each fault that a reader finds is named by its number: no fault of a record is another refusal than the one of its number.
-- Assumes nothing.
use Rattle.std.specs.Prelude.{Some, None, Result, Ok, Err}
use Prim.Native.Nat.{ℕ, zero, suc}
use mathlib.Core.Bool.{Bool, true, false, cond}
use mathlib.Core.List.{List}
use mathlib.Core.Path.{◌≡◌, ap}
use lib.Dec.{leb}
use lib.ListN.{length, drop}
use Rattle.decide.specs.declared.refusal.Refusal.{Refusal}
use Rattle.decide.specs.Number.{number_in, refusal_of}
use Rattle.decide.specs.Refusal.{first_of}
use Rattle.decide.proofs.Number.{number_told}
use Rattle.record.specs.Read.{header_faults, item_faults}
use Rattle.record.specs.Step.{Step, headed, header_of_of, stepped, item_at, within, item_within}

-- an answer whose refusal, if any, is the one of its number
abbrev pub Named : {A : Type 0} → Result A Refusal → Type 0
Named (Ok a) = Unit {0}
Named (Err r) = refusal_of (number_in r) ≡ r

pub named_of : (n : ℕ) → refusal_of (number_in (refusal_of n)) ≡ refusal_of n
named_of n = ap refusal_of (number_told n)

-- the fault of a header,
pub header_named : (xs : List ℕ) → Named (header_of_of xs)
unfolding header_of_of
header_named xs = by (first_of (header_faults xs))
  where
    by : (n : ℕ) → Named (headed n xs)
    by zero = tt
    by (suc n) = named_of (suc n)

-- of an item,
pub item_named : (runs : Bool) (mtu : ℕ) (xs : List ℕ) (at : ℕ) → Named (item_at runs mtu xs at)
unfolding item_at
item_named runs mtu xs at = by (leb (length xs) at) (first_of (item_faults runs mtu (drop at xs)))
  where
    by : (b : Bool) (n : ℕ) → Named (cond b (Ok None) (stepped n xs at))
    by true n = tt
    by false zero = tt
    by false (suc n) = named_of (suc n)

-- and of one where `left` more may come, if what comes too late is named
pub within_named : (runs : Bool) (late : Refusal) (left mtu : ℕ) (xs : List ℕ) (at : ℕ) → refusal_of (number_in late) ≡ late → Named (item_within runs late left mtu xs at)
unfolding item_within
within_named runs late left mtu xs at h = by left (item_at runs mtu xs at) (item_named runs mtu xs at)
  where
    over : (b : Bool) (s : Step) → Named s → Named (cond b s (Err late))
    over true s k = k
    over false s k = h

    by : (m : ℕ) (s : Step) → Named s → Named (within late m s)
    by m (Ok (Some p)) k = over (leb p.count m) (Ok (Some p)) tt
    by m (Ok None) k = tt
    by zero (Err r) k = h
    by (suc m) (Err r) k = k
