-- Summaries as files of bytes, joined in the order given: what the command `rpr join` answers.
-- Assumes nothing.
use Rattle.std.specs.Prelude.{ℕ, not, List, [], ◌∷◌, eqb, length}
use Rattle.decide.specs.Refusal.{Fault, fault, first_of}
use Rattle.summary.specs.Answer.{answered, and_then, join_next, Answer}
use Rattle.summary.specs.Range.{in_range}
use Rattle.sheet.specs.Sheet.{sheet_length, summary_at, handed}

-- 2: another number of bytes than a summary takes. 3: the summary is outside its range
abbrev pub open_faults : List ℕ → List Fault
open_faults xs = fault 2 (not (eqb (length xs) sheet_length)) ∷ fault 3 (not (in_range (summary_at xs))) ∷ []

-- the summary that a file holds
unfoldable pub opened_of : List ℕ → Answer
opened_of xs = answered (first_of (open_faults xs)) (summary_at xs)

-- the summary so far, joined with the next file's; the first refusal stands
abbrev pub joined_with : Answer → List ℕ → Answer
joined_with before xs = and_then before (λ s. join_next s (opened_of xs))

-- file after file
unfoldable pub joined_from : Answer → List (List ℕ) → Answer
joined_from before [] = before
joined_from before (xs ∷ files) = joined_from (joined_with before xs) files

-- all files, the first of which is opened
abbrev pub joined_of : List ℕ → List (List ℕ) → Answer
joined_of xs files = joined_from (opened_of xs) files

-- the file that `rpr summarize --sheet` and `rpr join --sheet` write: a summary's bytes, and of a refusal nothing
abbrev pub file_of : Answer → List ℕ
file_of answer = handed [] answer
