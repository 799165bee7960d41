-- A record that is refused gives a number of the table: each of its faults does.
-- Assumes nothing.
use Rattle.std.specs.Prelude.{Ok, Err}
use Prim.Native.Nat.{ℕ, zero, suc, ◌≤◌, ◌<◌}
use mathlib.Core.Bool.{Bool, true, false, ◌&&◌, cond}
use mathlib.Core.List.{List, [], ◌∷◌}
use mathlib.Core.Path.{◌≡◌, refl}
use native.Mathlib.Omega.{arith}
use lib.ListN.{drop}
use Rattle.decide.specs.Number.{number_in}
use Rattle.decide.proofs.Number.{number_told}
use Rattle.decide.specs.Refusal.{first_of}
use Rattle.shaper.specs.Limits.{most_events}
use Rattle.shaper.specs.declared.Limits.{Limits}
use Rattle.shaper.specs.declared.Event.{Event}
use Rattle.shaper.specs.Kind.{event_of}
use Rattle.summary.specs.Answer.{answer_number, Answer}
use Rattle.record.specs.Read.{limits_at, header_faults, event_faults, is_run, run_faults, item_faults, item_kind, item_number, Events, faulty, events, onward, gone_behind, bytes_behind, read_items, Read, unreadable, whole, under, opened_in, read_in, read_record}
use Rattle.account.specs.Account.{summarized, summarize_in, summarize_of}
use Rattle.rpr.proofs.Shape.{most_number, numbered, first_most}

-- a number of the table
abbrev pub OfTable : ℕ → Type 0
OfTable n = (0 < n) × (n ≤ most_number)

abbrev EventsNumbered : Events → Type 0
EventsNumbered (faulty n) = OfTable n
EventsNumbered (events es) = Unit {0}

onward_numbered : (n : ℕ) (e : Event) (r : Events) → n ≤ most_number → EventsNumbered r → EventsNumbered (onward n e r)
onward_numbered zero e (events es) h k = tt
onward_numbered zero e (faulty m) h k = k
onward_numbered (suc n) e r h k = omega arith

-- the rows of an item bear numbers of the table, in either form
item_numbered : (runs : Bool) (mtu : ℕ) (xs : List ℕ) → numbered (item_faults runs mtu xs) ≡ true
unfolding item_faults
item_numbered runs mtu xs = by (runs && is_run xs)
  where
    by : (b : Bool) → numbered (cond b (run_faults xs) (event_faults mtu xs)) ≡ true
    by true = refl
    by false = refl

from_numbered : (runs : Bool) (late mtu left gone : ℕ) (xs : List ℕ) → OfTable late → EventsNumbered (read_items runs late mtu left gone xs)
unfolding read_items
from_numbered runs late mtu zero gone [] p = tt
from_numbered runs late mtu zero gone (x ∷ xs) p = p
from_numbered runs late mtu (suc left) gone [] p = tt
from_numbered runs late mtu (suc left) gone (x ∷ xs) p =
    onward_numbered (first_of (item_faults runs mtu (x ∷ xs))) (event_of (item_kind (x ∷ xs)) (item_number (x ∷ xs))) _
    (first_most (item_faults runs mtu (x ∷ xs)) (item_numbered runs mtu (x ∷ xs)))
    (from_numbered runs late mtu left (gone_behind gone (x ∷ xs)) (bytes_behind gone (x ∷ xs)) p)

-- what a refusal bears
abbrev pub AnswerNumbered : Answer → Type 0
AnswerNumbered (Ok s) = Unit {0}
AnswerNumbered (Err r) = OfTable (number_in r)

-- and what an unreadable record does
abbrev pub ReadNumbered : Read → Type 0
ReadNumbered (unreadable n) = OfTable n
ReadNumbered (whole l es) = Unit {0}

under_numbered : (l : Limits) (r : Events) → EventsNumbered r → ReadNumbered (under l r)
under_numbered l (faulty n) h = h
under_numbered l (events es) h = tt

opened_numbered : (runs : Bool) (n : ℕ) (xs : List ℕ) → n ≤ most_number → ReadNumbered (opened_in runs n xs)
opened_numbered runs zero xs h =
    under_numbered (limits_at xs) (read_items runs 9 (limits_at xs).mtu most_events 0 (drop 14 xs)) (from_numbered runs 9 (limits_at xs).mtu most_events 0 (drop 14 xs) (omega arith))
opened_numbered runs (suc n) xs h = omega arith

pub read_numbered : (runs : Bool) (xs : List ℕ) → ReadNumbered (read_in runs xs)
unfolding read_in
read_numbered runs xs = opened_numbered runs (first_of (header_faults xs)) xs (first_most (header_faults xs) refl)

summarized_numbered : (r : Read) → ReadNumbered r → AnswerNumbered (summarized r)
summarized_numbered (unreadable n) h = rw (number_told n) h
summarized_numbered (whole l es) h = tt

pub record_numbered : (xs : List ℕ) → AnswerNumbered (summarize_of xs)
unfolding summarize_in
record_numbered xs = summarized_numbered (read_record xs) (read_numbered true xs)

pub answer_most : (a : Answer) → AnswerNumbered a → answer_number a ≤ most_number
answer_most (Ok s) h = omega arith
answer_most (Err r) h = h.1
