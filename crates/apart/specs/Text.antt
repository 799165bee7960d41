-- What is printed of two records, as bytes.
-- Assumes nothing.
use Rattle.std.specs.Prelude.{Ok}
use Rattle.std.specs.Prelude.{ℕ, cond, List, [], ◌∷◌, ◌++◌, eqb}
use Rattle.shaper.specs.declared.Limits.{Limits}
use Rattle.shaper.specs.declared.Event.{Event}
use Rattle.shaper.specs.declared.Event.TheVariants.{Waiting, Idle, Send}
use Rattle.summary.specs.Answer.{Answer}
use Rattle.summary.specs.Summary.{summary_of}
use Rattle.record.specs.Read.{Read, unreadable, whole, read_record}
use Rattle.report.specs.Text.{ascii, numeral, line}
use Rattle.report.specs.Report.{refused_text, printed_of}
use Rattle.apart.specs.Told.{Told, both, first_only, second_only, list_of}

-- words and a number behind them
abbrev pub named : List ℕ → ℕ → List ℕ
named words n = words ++ numeral n

-- ---- the settings that differ

-- `mtu A, B`, where they differ: the first record's before the comma
unfoldable pub setting_text : List ℕ → ℕ → ℕ → List ℕ
setting_text words a b = cond (eqb a b) [] (named words a ++ line (ascii ", ") (numeral b))

-- "Settings that differ are printed first"
unfoldable pub opening_text : Limits → Limits → List ℕ
opening_text l m =
    setting_text (ascii "mtu ") l.mtu m.mtu
    ++ setting_text (ascii "loLimit ") l.lo m.lo
    ++ setting_text (ascii "hiLimit ") l.hi m.hi

-- ---- the list

-- an event as `KIND NUMBER`: KIND is `waiting`, `idle` or `send`
unfoldable pub event_text : Event → List ℕ
event_text (Waiting x) = named (ascii "waiting ") x
event_text (Idle x) = named (ascii "idle ") x
event_text (Send z) = named (ascii "send ") z

-- what a line begins with: words, the position and a colon
abbrev pub head_text : List ℕ → ℕ → List ℕ
head_text words n = named words n ++ ascii ": "

-- `event N: KIND NUMBER, KIND NUMBER`
unfoldable pub both_text : ℕ → Event → Event → List ℕ
both_text n e f = head_text (ascii "event ") n ++ event_text e ++ ascii ", " ++ event_text f ++ ascii "\n"

-- `first only, event N: KIND NUMBER` or `second only, event N: KIND NUMBER`
unfoldable pub only_text : List ℕ → ℕ → Event → List ℕ
only_text words n e = head_text words n ++ event_text e ++ ascii "\n"

abbrev pub first_words : List ℕ
first_words = ascii "first only, event "

abbrev pub second_words : List ℕ
second_words = ascii "second only, event "

abbrev pub told_text : Told → List ℕ
told_text (both n e f) = both_text n e f
told_text (first_only n e) = only_text first_words n e
told_text (second_only n f) = only_text second_words n f

-- a line for each that is listed, in the list's order
unfoldable pub list_text : List Told → List ℕ
list_text [] = []
list_text (t ∷ ts) = told_text t ++ list_text ts

-- ---- both summaries

-- "then both summaries": `first` and its six lines, `second` and its six lines
unfoldable pub closing_text : Answer → Answer → List ℕ
closing_text a b = ascii "first\n" ++ printed_of a ++ ascii "second\n" ++ printed_of b

-- ---- the whole

-- "Settings that differ are printed first; the events are compared all the same, each summary under its own settings."
abbrev pub parting_text : Limits → List Event → Limits → List Event → List ℕ
parting_text l es m fs = opening_text l m ++ list_text (list_of es fs) ++ closing_text (Ok (summary_of l es)) (Ok (summary_of m fs))

-- "Refusals: as for one record, the first file's before the second's."
abbrev pub compared_text : Read → Read → List ℕ
compared_text (unreadable n) second = refused_text n
compared_text (whole l es) (unreadable n) = refused_text n
compared_text (whole l es) (whole m fs) = parting_text l es m fs

-- what the program prints of two files, by their bytes
unfoldable pub compare_of : List ℕ → List ℕ → List ℕ
compare_of xs ys = compared_text (read_record xs) (read_record ys)
