-- What a refusal means, by its number alone: the words behind the number in the line that is said.
-- Assumes nothing.
use Rattle.std.specs.Prelude.{ℕ, List, cond, eqb}
use Rattle.report.specs.Text.{ascii}

-- of a record
abbrev pub record_words : ℕ → List ℕ
record_words n =
    cond (eqb n 1) (ascii "a setting is outside its range")
    (cond (eqb n 2) (ascii "the bytes are not a whole record")
    (cond (eqb n 3) (ascii "the size of a send is outside its range")
    (ascii "over 1,000,000 events")))

-- of a heartbeat's pattern
abbrev pub pattern_words : ℕ → List ℕ
pattern_words n =
    cond (eqb n 3) (ascii "over 256 events, or the size of a send is outside its range")
    (cond (eqb n 9) (ascii "over 1,000,000 events with so many repeats")
    (record_words n))

-- of a summary that is joined to those before it
abbrev pub summary_words : ℕ → List ℕ
summary_words n =
    cond (eqb n 2) (ascii "not the 48 bytes of a summary")
    (cond (eqb n 3) (ascii "the summary is outside its range")
    (cond (eqb n 10) (ascii "its settings are not those of the files before it")
    (ascii "over 1,000,000 events with the files before it")))
