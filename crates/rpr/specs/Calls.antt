-- What each call answers, and what it leaves in the slice that is lent for writing.
-- Assumes nothing.
use Rattle.std.specs.Prelude.{ℕ, ◌+◌, ◌*◌, ◌<◌, true, not, List, [], ◌∷◌, ◌++◌, ◌≡◌, eqb, Ok, Err, Some, None}
use Rattle.decide.specs.Number.{number_in}
use Rattle.decide.specs.Refusal.{Fault, rank_of}
use Rattle.wire.specs.Wire.{digits}
use Rattle.summary.specs.Summary.{joined}
use Rattle.summary.specs.Range.{in_range}
use Rattle.summary.specs.Answer.{join_faults, settle_faults, settled, answer_number, Outcome}
use Rattle.account.specs.Account.{summarize_of}
use Rattle.sheet.specs.Sheet.{sheet_length, sheet_of, summary_at, handed}
use Rattle.answer.specs.Bytes.{packed, permitted_bytes}
use Rattle.rpr.specs.Shape.{answer_of, after_of, other_length_of}

-- ---- rpr_version

-- 256 × the first number of the version + the second: 4.1
abbrev pub version_number : ℕ
version_number = 256 * 4 + 1

-- ---- rpr_summarize

-- within a record the earliest fault counts: one row, whose number is the one that the record comes to
abbrev pub record_fault : ℕ → Fault
record_fault n = record { rank = rank_of 2 + 1; number = n; applies = not (eqb n 0) }

-- A wrong room is 2 first, then the record's earliest fault.
abbrev pub summarize_rows : List ℕ → List ℕ → List Fault
summarize_rows xs room = other_length_of sheet_length room ∷ record_fault (answer_number (summarize_of xs)) ∷ []

unfoldable pub summarize_answer : List ℕ → List ℕ → ℕ
summarize_answer xs room = answer_of (summarize_rows xs room) 0

-- The room holds the record's summary.
unfoldable pub summarize_after : List ℕ → List ℕ → List ℕ
summarize_after xs room = after_of (summarize_rows xs room) room (handed room (summarize_of xs))

-- ---- rpr_join

-- 2 for any slice that is no summary's; then 3, 10 and 9 of the two summaries.
abbrev pub join_rows : List ℕ → List ℕ → List ℕ → List Fault
join_rows first second room =
    other_length_of sheet_length first
    ∷ other_length_of sheet_length second
    ∷ other_length_of sheet_length room
    ∷ join_faults (summary_at first) (summary_at second)

unfoldable pub join_answer : List ℕ → List ℕ → List ℕ → ℕ
join_answer first second room = answer_of (join_rows first second room) 0

-- The room holds the joined summary.
unfoldable pub join_after : List ℕ → List ℕ → List ℕ → List ℕ
join_after first second room = after_of (join_rows first second room) room (sheet_of (joined (summary_at first) (summary_at second)))

-- where a join was carried out: the room holds the joined summary, which is in range
pub record Joined (first second room : List ℕ) : Type 0 where
  pub in_range_lem : in_range (joined (summary_at first) (summary_at second)) ≡ true
  pub holds : summary_at (join_after first second room) ≡ joined (summary_at first) (summary_at second)

-- ---- rpr_settle

-- 2 for a slice that is no summary's; then 3 of the summary and the starting credit.
abbrev pub settle_rows : List ℕ → ℕ → List Fault
settle_rows xs start = other_length_of sheet_length xs ∷ settle_faults (summary_at xs) start

-- Permitted throughout with the credit at the end, or 0; or the refusal's number alone.
abbrev pub outcome_answer : Outcome → ℕ
outcome_answer (Ok (Some credit)) = packed (permitted_bytes credit)
outcome_answer (Ok None) = 0
outcome_answer (Err r) = number_in r

unfoldable pub settle_answer : List ℕ → ℕ → ℕ
settle_answer xs start = answer_of (settle_rows xs start) (outcome_answer (settled 0 (summary_at xs) start))

-- byte 1 is 1 where permitted throughout, and bytes 4 to 7 hold the credit at the end, which fits them
pub record EndsAt (answer end : ℕ) : Type 0 where
  pub bytes : digits 8 answer ≡ (0 ∷ 1 ∷ 0 ∷ 0 ∷ []) ++ digits 4 end
  pub fits : end < 4294967296
