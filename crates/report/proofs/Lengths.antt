-- How long the texts are: each the sum of its parts, and the whole within 256 bytes, whatever numbers it holds.
-- Assumes nothing.
use Rattle.std.specs.Prelude.{Ok, Err, Some, None}
use mathlib.Core.Path.{◌≡◌, ◌∙◌}
use mathlib.Core.List.{List, ◌++◌}
use Prim.Native.Nat.{ℕ, suc, ◌+◌, ◌≤◌, ◌<◌}
use native.Mathlib.Omega.{arith}
use lib.IntN.{ℤ, pos, negsuc}
use lib.Signed.{mag}
use lib.ListN.{length, length-append}
use Rattle.decide.specs.declared.refusal.Refusal.{Refusal}
use Rattle.decide.specs.Number.{number_in, refusal_of}
use Rattle.summary.specs.declared.Summary.{Summary}
use Rattle.summary.specs.Answer.{settle_of}
use Rattle.summary.specs.Range.{in_range}
use Rattle.summary.proofs.Paper.{settled_plain}
use Rattle.summary.proofs.Rows.{settles, settles_not, settle_3_credit, settle_3_summary}
use Rattle.plain.specs.declared.Plain.{Plain}
use Rattle.plain.specs.Plain.{plain_end_of}
use Rattle.summary.specs.Plain.{plain_from}
use Rattle.decide.proofs.Cases.{by_cases, le_or, true_or_false}
use Rattle.report.specs.Text.{ascii, numeral, signed_numeral, line}
use Rattle.report.proofs.Numeral.{numeral_fits}
use Rattle.report.proofs.Filled.{length_line}
use Rattle.report.specs.Report.{ceiling_line, counts_text, started_text, settled_text}

pub length_counts : (s : Summary) → length (counts_text s)
    ≡ 29 + length (numeral s.events) + length (numeral s.accrued) + length (numeral s.sent) + length (ceiling_line s) + length (numeral s.need)
unfolding counts_text
length_counts s = simp (length-append, length_line) (omega arith)

pub length_started : (s : Summary) → length (started_text s) ≡ length (counts_text s) + (6 + length (numeral s.limits.lo))
unfolding started_text
length_started s = length-append (counts_text s) (ascii "start " ++ numeral s.limits.lo) ∙ omega arith

-- ---- within the room

pub line_short : (words : List ℕ) (n : ℕ) → n < 18446744073709551616 → length (line words (numeral n)) ≤ length words + 21
line_short words n h = omega (arith, length_line words (numeral n), numeral_fits n h)

signed_short : (z : ℤ) → mag z < 9223372036854775808 → length (signed_numeral z) ≤ 21
unfolding signed_numeral
signed_short (pos n) h = omega (arith, numeral_fits n (omega arith))
signed_short (negsuc m) h = omega (arith, numeral_fits (suc m) (omega arith))

ceiling_short : (s : Summary) → mag s.ceiling < 9223372036854775808 → length (ceiling_line s) ≤ 30
ceiling_short s h = omega (arith, length_line (ascii "ceiling ") (signed_numeral s.ceiling), signed_short s.ceiling h)

-- the numbers of a summary and of an outcome are of 8 bytes
pub record EightBytes (s : Summary) : Type 0 where
  pub lo : s.limits.lo < 18446744073709551616
  pub hi : s.limits.hi < 18446744073709551616
  pub events : s.events < 18446744073709551616
  pub accrued : s.accrued < 18446744073709551616
  pub sent : s.sent < 18446744073709551616
  pub ceiling : mag s.ceiling < 9223372036854775808
  pub need : s.need < 18446744073709551616

started_short : (s : Summary) → EightBytes s → length (started_text s) ≤ 165
started_short s h =
    omega (
      arith,
      length_started s,
      length_counts s,
      ceiling_short s h.ceiling,
      numeral_fits s.limits.lo h.lo,
      numeral_fits s.events h.events,
      numeral_fits s.accrued h.accrued,
      numeral_fits s.sent h.sent,
      numeral_fits s.need h.need,
    )

end_below : (p : Plain) (c : ℕ) → plain_end_of p c ≤ p.limits.hi
unfolding plain_end_of
end_below p c = omega arith

module _ (s : Summary) (h : EightBytes s) where
  permitted_short : (x : ℕ) → x < 18446744073709551616 → length (settled_text s (Ok (Some x))) ≤ 256
  unfolding settled_text
  permitted_short x e =
      omega (
        arith,
        length-append (started_text s) (line (ascii " permitted end ") (numeral x)),
        started_short s h,
        line_short (ascii " permitted end ") x e,
      )

  not_permitted_short : length (settled_text s (Ok None)) ≤ 256
  unfolding settled_text
  not_permitted_short = omega (arith, length-append (started_text s) (ascii " not permitted\n"), started_short s h)

  refused_short : (r : Refusal) → number_in r < 18446744073709551616 → length (settled_text s (Err r)) ≤ 256
  unfolding settled_text
  refused_short r e = omega (arith, line_short (ascii "refused ") (number_in r) e)

  pub settled_short : (c : ℕ) → length (settled_text s (settle_of s c)) ≤ 256
  settled_short c =
      by_cases (true_or_false (in_range s))
      (λ ranged.
      by_cases (le_or c s.limits.hi)
      (λ low.
      by_cases (le_or s.need c)
      (λ enough. rw (settles s c ranged low enough) (permitted_short _ (rw (settled_plain s c ranged low enough) (omega (arith, h.hi, end_below (plain_from s) c)))))
      (λ less. rw (settles_not s c ranged low less) not_permitted_short))
      (λ high. rw (settle_3_credit s c ranged high) (refused_short (refusal_of 3) (omega arith))))
      (λ out. rw (settle_3_summary s c out) (refused_short (refusal_of 3) (omega arith)))
