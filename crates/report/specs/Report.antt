-- What is printed of a record: the summary program's six lines, or a refusal's number.
-- Assumes nothing.
use Rattle.std.specs.Prelude.{ℕ, List, ◌++◌, Ok, Err, Some, None}
use Rattle.decide.specs.Number.{number_in}
use Rattle.summary.specs.declared.Summary.{Summary}
use Rattle.summary.specs.Answer.{settle_of, Answer, Outcome}
use Rattle.report.specs.Text.{ascii, numeral, signed_numeral, line}

-- A refusal prints only `refused N`.
abbrev pub refused_text : ℕ → List ℕ
refused_text n = line (ascii "refused ") (numeral n)

abbrev pub ceiling_line : Summary → List ℕ
ceiling_line s = line (ascii "ceiling ") (signed_numeral s.ceiling)

-- the first five lines
unfoldable pub counts_text : Summary → List ℕ
counts_text s =
    line (ascii "events ") (numeral s.events)
    ++ line (ascii "accrued ") (numeral s.accrued)
    ++ line (ascii "sent ") (numeral s.sent)
    ++ ceiling_line s
    ++ line (ascii "need ") (numeral s.need)

-- these and the last line's start
unfoldable pub started_text : Summary → List ℕ
started_text s = counts_text s ++ (ascii "start " ++ numeral s.limits.lo)

-- The lines of a summary, the last by what its events do from the start. Where that is a refusal, as the summary is outside its range, the refusal alone.
unfoldable pub settled_text : Summary → Outcome → List ℕ
settled_text s (Ok (Some credit)) = started_text s ++ line (ascii " permitted end ") (numeral credit)
settled_text s (Ok None) = started_text s ++ ascii " not permitted\n"
settled_text s (Err r) = refused_text (number_in r)

-- The start is loLimit.
unfoldable pub printed_of : Answer → List ℕ
printed_of (Ok s) = settled_text s (settle_of s s.limits.lo)
printed_of (Err r) = refused_text (number_in r)
