-- Heartbeats that always fit (document 02, A12): whether a pattern of events, repeated a stated number of times, is permitted throughout from loLimit, and if so the credit
-- at the end.
-- Assumes nothing.
use Rattle.std.specs.Prelude.{Ok, Err, Some, None}
use Rattle.decide.specs.Number.{number_in, refusal_of}
use Rattle.std.specs.Prelude.{ℕ, cond, eqb, List, drop}
use Rattle.summary.specs.Answer.{Answer}
use Rattle.summary.specs.Answer.{Outcome}
use Rattle.summary.specs.Answer.{and_then, settle_of}
use Rattle.record.specs.Step.{Header}
use Rattle.record.specs.Read.{Read, unreadable, under, read_from}
use Rattle.record.specs.Step.{header_of_of}
use Rattle.account.specs.Account.{summarized}
use Rattle.answer.specs.Bytes.{packed, permitted_bytes}
use Rattle.heartbeat.specs.Repeat.{repeated_of}

-- ---- the pattern

-- A pattern of at most 256 events.
abbrev pub most_of_pattern : ℕ
most_of_pattern = 256

-- It is a record, in either form, and its header has the settings of a class-A shaper. Refusals as for records; 3 at a 257th event: any byte past the 256th gives it, and so
-- does a run without a fault of its own that passes it.
abbrev pub pattern_by : List ℕ → Header → Read
pattern_by xs (Ok l) = under l (read_from 3 l.mtu most_of_pattern 0 (drop 14 xs))
pattern_by xs (Err r) = unreadable (number_in r)

unfoldable pub read_pattern : List ℕ → Read
read_pattern xs = pattern_by xs (header_of_of xs)

-- its summary, or the number of its earliest fault
unfoldable pub pattern_of : List ℕ → Answer
pattern_of xs = summarized (read_pattern xs)

-- ---- repeated

-- Its summary, joined with itself one by one; doubling gives the same (`doubles`). The pattern's earliest fault first; then 9 where repeats times pattern events exceed 1,000,000.
unfoldable pub heartbeats_of : List ℕ → ℕ → Answer
heartbeats_of xs r = and_then (pattern_of xs) (λ s. repeated_of s r)

-- from loLimit: permitted throughout, and if so the credit at the end; a refusal stays
abbrev pub from_low_of : Answer → Outcome
from_low_of (Ok s) = settle_of s s.limits.lo
from_low_of (Err r) = Err r

-- ---- rpr_heartbeat

-- Answer as rpr_settle's (paper: `written_out`): byte 1 permitted throughout, 4 to 7 the credit at the end; 0 where not permitted; or the number of the refusal alone.
abbrev pub outcome_told : Outcome → ℕ
outcome_told (Ok (Some credit)) = packed (permitted_bytes credit)
outcome_told (Ok None) = 0
outcome_told (Err r) = number_in r

unfoldable pub heartbeat_answer : List ℕ → ℕ → ℕ
heartbeat_answer xs r = outcome_told (from_low_of (heartbeats_of xs r))

-- ---- how the code tells too many

-- the same answer with 3 for 9
abbrev pub many_told : Answer → Answer
many_told (Ok s) = Ok s
many_told (Err r) = cond (eqb (number_in r) 9) (Err (refusal_of 3)) (Err r)
