-- What the calls of a summary answer: refusals by the rows that apply, else what the paper says.
-- Assumes nothing.
use Rattle.std.specs.Prelude.{ℕ, zero, suc, ◌+◌, ◌*◌, cond, not, List, [], ◌∷◌, leb, ltb, eqb, nat_abs, replicate, Option, Some, None, Result, Ok, Err}
use Rattle.decide.specs.Test.{test}
use Rattle.decide.specs.Number.{number_in, refusal_of}
use Rattle.decide.specs.Refusal.{Fault, fault, first_of}
use Rattle.decide.specs.declared.refusal.Refusal.{Refusal}
use Rattle.shaper.specs.declared.Limits.{Limits}
use Rattle.shaper.specs.declared.Event.{Event}
use Rattle.shaper.specs.Limits.{limits_ok, same_limits, most_events}
use Rattle.shaper.specs.Credit.{event_ok}
use Rattle.plain.specs.Range.{count_ok}
use Rattle.summary.specs.declared.Summary.{Summary}
use Rattle.summary.specs.Summary.{empty_of, ticks_of, single_of, joined, summary_of, end_ℤ}
use Rattle.summary.specs.Range.{in_range}

-- a summary, or why there is none
abbrev pub Answer : Type 0
Answer = Result Summary Refusal

-- What a summary says of a starting credit: permitted throughout with the credit at the end, or not permitted (None); or a refusal.
abbrev pub Outcome : Type 0
Outcome = Result (Option ℕ) Refusal

-- the refusal of a number alone, or the summary where there is none
abbrev pub answered : ℕ → Summary → Answer
answered zero s = Ok s
answered (suc n) s = Err (refusal_of (suc n))

-- ---- of no event and of one

-- 1: a setting is outside its range
abbrev pub empty_faults : Limits → List Fault
empty_faults l = fault 1 (not (test (limits_ok l))) ∷ []

unfoldable pub empty_answer : Limits → Answer
empty_answer l = answered (first_of (empty_faults l)) (empty_of l)

-- 1: a setting is outside its range. 3: the event's number is
abbrev pub single_faults : Limits → Event → List Fault
single_faults l e = fault 1 (not (test (limits_ok l))) ∷ fault 3 (not (test (event_ok l e))) ∷ []

unfoldable pub single_answer : Limits → Event → Answer
single_answer l e = answered (first_of (single_faults l e)) (single_of l e)

-- ---- of equal events, as an item of a record stands for them

-- 1: a setting is outside its range. 3: the event's number is, or the count: ticks come in runs, a send comes alone. 9: over 1,000,000 events
abbrev pub counted_faults : Limits → Event → ℕ → List Fault
counted_faults l e count =
    fault 1 (not (test (limits_ok l)))
    ∷ fault 3 (not (test (event_ok l e)))
    ∷ fault 3 (not (test (count_ok e count)))
    ∷ fault 9 (ltb most_events count)
    ∷ []

-- the summary of so many equal events, one after the other (`run_closed`: in closed form; `counted_one_by_one`: joined one by one)
unfoldable pub counted_answer : Limits → Event → ℕ → Answer
counted_answer l e count = answered (first_of (counted_faults l e count)) (summary_of l (replicate count e))

-- 3: no tick. 9: over 1,000,000 events
abbrev pub run_faults : ℕ → List Fault
run_faults count = fault 3 (eqb count 0) ∷ fault 9 (ltb most_events count) ∷ []

-- a run of equal ticks under one ceiling
unfoldable pub run_answer : Limits → ℕ → ℕ → ℕ → Answer
run_answer l ceiling x count = answered (first_of (run_faults count)) (ticks_of l ceiling count (count * x))

-- ---- join

-- 3: a summary (its settings too) is outside its range. 10: joined summaries have different settings. 9: over 1,000,000 events
abbrev pub join_faults : Summary → Summary → List Fault
join_faults a b =
    fault 3 (not (in_range a))
    ∷ fault 3 (not (in_range b))
    ∷ fault 10 (not (test (same_limits a.limits b.limits)))
    ∷ fault 9 (ltb most_events (a.events + b.events))
    ∷ []

unfoldable pub join_of : Summary → Summary → Answer
join_of a b = answered (first_of (join_faults a b)) (joined a b)

-- a further join, where the first was not refused
abbrev pub and_then : Answer → (Summary → Answer) → Answer
and_then (Ok s) f = f s
and_then (Err r) f = Err r

-- a summary joined with the one behind it, where that was not refused
abbrev pub join_next : Summary → Answer → Answer
join_next s next = and_then next (λ t. join_of s t)

-- a summary joined with that of one event more,
abbrev pub one_more_of : Summary → Event → Answer
one_more_of s e = join_next s (single_answer s.limits e)

-- and so for as many equal events, one by one
unfoldable pub counted_of : ℕ → Summary → Event → Answer
counted_of zero s e = Ok s
counted_of (suc count) s e = and_then (counted_of count s e) (λ t. one_more_of t e)

-- ---- settle

-- 3: the summary or the starting credit is outside its range
abbrev pub settle_faults : Summary → ℕ → List Fault
settle_faults s c = fault 3 (not (in_range s)) ∷ fault 3 (ltb s.limits.hi c) ∷ []

-- From credit c: permitted throughout exactly if c ≥ need, ending at min(c + gain, ceiling).
abbrev pub settled : ℕ → Summary → ℕ → Outcome
settled zero s c = cond (leb s.need c) (Ok (Some (nat_abs (end_ℤ s c)))) (Ok None)
settled (suc n) s c = Err (refusal_of (suc n))

unfoldable pub settle_of : Summary → ℕ → Outcome
settle_of s c = settled (first_of (settle_faults s c)) s c

-- document 01's number of each answer
abbrev pub answer_number : Answer → ℕ
answer_number (Ok s) = 0
answer_number (Err r) = number_in r

abbrev pub outcome_number : Outcome → ℕ
outcome_number (Ok (Some c)) = 0
outcome_number (Ok None) = 0
outcome_number (Err r) = number_in r
