-- The exit status of a command: 0 done, 1 refused, 2 trouble; of two records 0 the same, 1 different; of a heartbeat 0 permitted, 1 not.
-- Assumes nothing.
use Rattle.std.specs.Prelude.{ℕ, Bool, true, false, Some, None, Ok, Err}
use Rattle.summary.specs.Answer.{Answer, Outcome}
use Rattle.console.specs.declared.status.Status.{Status}

-- the number of a status
abbrev pub number_of : Status → ℕ
number_of Status.Yes = 0
number_of Status.No = 1
number_of Status.Trouble = 2

-- `rpr summarize` and `rpr join`, by whether what is printed could be written, and by what the record or the files come to
abbrev pub status_of : Bool → Answer → ℕ
status_of false answer = 2
status_of true (Ok s) = 0
status_of true (Err r) = 1

-- `rpr compare` of two records that stand, by whether they are the same
abbrev pub same_status : Bool → ℕ
same_status true = 0
same_status false = 1

-- `rpr heartbeat`, by whether what is printed could be written, and by what the repeats do from loLimit
abbrev pub heartbeat_status : Bool → Outcome → ℕ
heartbeat_status false outcome = 2
heartbeat_status true (Ok (Some credit)) = 0
heartbeat_status true (Ok None) = 1
heartbeat_status true (Err r) = 2
