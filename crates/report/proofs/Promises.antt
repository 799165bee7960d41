-- What is printed, in the words of document 01.
-- Assumes nothing.
use Rattle.std.specs.Prelude.{Ok, Err}
use Prim.Native.Nat.{◌≤◌, ◌<◌}
use mathlib.Core.Bool.{true, false}
use mathlib.Core.List.{◌++◌}
use mathlib.Core.Path.{◌≡◌, refl, ap}
use native.Mathlib.Omega.{arith}
use lib.IntN.{pos, negsuc, nat_abs}
use Rattle.decide.specs.declared.refusal.Refusal.{Refusal}
use Rattle.decide.specs.Number.{number_in, refusal_of}
use Rattle.summary.specs.declared.Summary.{Summary}
use Rattle.summary.specs.Answer.{settle_of}
use Rattle.decide.specs.Test.{test}
use Rattle.decide.specs.Refusal.{first, first_of}
use Rattle.summary.specs.Range.{in_range}
use Rattle.summary.specs.Summary.{end_ℤ}
use Rattle.summary.proofs.Paper.{in_range_plain}
use Rattle.summary.proofs.Rows.{settles, settles_not, settle_3_summary}
use Rattle.report.specs.Text.{ascii, spelt, numeral, signed_numeral, line}
use Rattle.report.specs.Report.{counts_text, started_text, settled_text, printed_of}

-- the summary of document 01's example record
abbrev pub example : Summary
example =
    record {
      limits = record { mtu = 64; lo = 100; hi = 300 };
      events = 4;
      accrued = 200;
      sent = 124;
      ceiling = pos 100;
      need = 11;
    }

-- "it prints exactly:"
pub text_example : printed_of (Ok example) ≡ ascii "events 4\naccrued 200\nsent 124\nceiling 100\nneed 11\nstart 100 permitted end 100\n"
unfolding printed_of settled_text started_text counts_text line numeral spelt signed_numeral settle_of in_range test first first_of
text_example = refl

-- a negative ceiling
pub negative_example : signed_numeral (negsuc 19) ≡ ascii "-20"
unfolding signed_numeral numeral spelt
negative_example = refl

-- "A refusal prints only `refused N`."
pub refused_alone : (r : Refusal) → printed_of (Err r) ≡ ascii "refused " ++ numeral (number_in r) ++ ascii "\n"
unfolding printed_of line
refused_alone r = refl

module _ (s : Summary) where
  -- so does a summary outside its range
  pub out_of_range_alone : in_range s ≡ false → printed_of (Ok s) ≡ printed_of (Err (refusal_of 3))
  unfolding printed_of settled_text
  out_of_range_alone out = ap (settled_text s) (settle_3_summary s s.limits.lo out)

  module _ (ranged : in_range s ≡ true) where
    start_within : s.limits.lo ≤ s.limits.hi
    start_within = omega (arith, in_range_plain s ranged)

    -- "The start is loLimit"
    pub start_permitted : s.need ≤ s.limits.lo →
        printed_of (Ok s) ≡ started_text s ++ line (ascii " permitted end ") (numeral (nat_abs (end_ℤ s s.limits.lo)))
    unfolding printed_of settled_text
    start_permitted enough = ap (settled_text s) (settles s s.limits.lo ranged start_within enough)

    -- "if need is larger the last line is `start 100 not permitted`"
    pub start_not_permitted : s.limits.lo < s.need → printed_of (Ok s) ≡ started_text s ++ ascii " not permitted\n"
    unfolding printed_of settled_text
    start_not_permitted less = ap (settled_text s) (settles_not s s.limits.lo ranged start_within less)
