-- Every answer's text fits a room of 256 bytes: its numbers are of 8 bytes.
-- Assumes nothing.
use Rattle.std.specs.Prelude.{Ok, Err}
use mathlib.Core.List.{[], ◌∷◌}
use Prim.Native.Nat.{◌≤◌, ◌<◌}
use native.Mathlib.Omega.{arith}
use lib.ListN.{length}
use borrow.Author.Rules.{rules}
use denote.Laws.{Is}
use denote.Enum.Declared.{row}
use denote.Enum.Laws.{val}
use Rattle.std.specs.contracts.result.Result.{the_type}
use Rattle.std.proofs.result.Result.TheLaws.{the_laws}
use Rattle.decide.specs.declared.refusal.Refusal.{Refusal}
use Rattle.decide.specs.Number.{number_in}
use Rattle.decide.specs.contracts.refusal.Refusal as OfRefusal
use Rattle.decide.proofs.refusal.Refusal.TheLaws as LawsOfRefusal
use Rattle.summary.specs.contracts.Summary as OfSummary
use Rattle.summary.proofs.Summary.TheLaws as LawsOfSummary
use Rattle.summary.specs.Answer.{Answer}
use Rattle.report.specs.Text.{ascii}
use Rattle.report.specs.Report.{printed_of}
use Rattle.report.proofs.Lengths.{line_short, settled_short}

-- what is known of an answer that code holds
abbrev pub OfCode : Answer → Type 0
OfCode a =
    Is (row (the_type OfSummary.the_row OfRefusal.the_row)) a
    (val (the_type OfSummary.the_row OfRefusal.the_row)
    (the_laws OfSummary.the_row OfRefusal.the_row LawsOfSummary.the_row_laws LawsOfRefusal.the_row_laws LawsOfSummary.the_told LawsOfRefusal.the_told) a
    ∷ [])

-- a refusal's number is of 8 bytes
number_short : (r : Refusal) → OfCode (Err r) → number_in r < 18446744073709551616
number_short Refusal.Setting g = omega arith
number_short Refusal.NotWhole g = omega arith
number_short Refusal.OutOfRange g = omega arith
number_short Refusal.NoSpace g = omega arith
number_short Refusal.StageHolds g = omega arith
number_short Refusal.NoCredit g = omega arith
number_short Refusal.OverRate g = omega arith
number_short Refusal.NoWay g = omega arith
number_short Refusal.TooMany g = omega arith
number_short Refusal.Unlike g = omega arith
number_short Refusal.OwnAddress g = omega arith
number_short Refusal.ShortRoom g = omega arith
number_short Refusal.BeyondRing g = omega arith
number_short (Refusal.Other n) g = search rules

pub printed_fits : (a : Answer) → OfCode a → length (printed_of a) ≤ 256
unfolding printed_of
printed_fits (Err r) g = omega (arith, line_short (ascii "refused ") (number_in r) (number_short r g))
printed_fits (Ok s) g =
    settled_short s
    record {
      lo = search rules;
      hi = search rules;
      events = search rules;
      accrued = search rules;
      sent = search rules;
      ceiling = search rules;
      need = search rules;
    }
    s.limits.lo
