-- Public functions of `report`, by name: two answers that meet the contract are equal.
-- Assumes nothing.
use Rattle.decide.specs.declared.refusal.Refusal.{Refusal}
use Rattle.report.specs.Report.{printed_of}
use Rattle.report.specs.Text.{line, numeral, signed_numeral}
use Rattle.std.specs.Prelude.{List, Result, length, ℕ, ℤ, ◌+◌, ◌≡◌}
use Rattle.summary.specs.declared.Summary.{Summary}
use Rattle.wire.specs.Wire.{put}
use Rattle.paper.specs.Determined.{Determined²}

pub record Functions : Type 0 where
  -- fill
  pub fill : (answer : Result Summary Refusal) (room : List ℕ) → Determined² (λ (r : ℕ) (after-room : List ℕ). (r ≡ length (printed_of answer)) × (after-room ≡ put room 0 (printed_of answer)))
  -- put_answer (a leaf: it asks that at + length (printed_of answer) ≤ length s.old)
  pub put_answer : (s : List ℕ) (at : ℕ) (answer : Result Summary Refusal) → Determined² (λ (r : ℕ) (after-s : List ℕ). (r ≡ at + length (printed_of answer)) × (after-s ≡ put s at (printed_of answer)))
  -- put_line (a leaf: it asks that at + length (line words.now (numeral n)) ≤ length s.old)
  pub put_line : (s : List ℕ) (at : ℕ) (words : List ℕ) (n : ℕ) → Determined² (λ (r : ℕ) (after-s : List ℕ). (r ≡ at + length (line words (numeral n))) × (after-s ≡ put s at (line words (numeral n))))
  -- put_signed (a leaf: it asks that at + length (signed_numeral n) ≤ length s.old)
  pub put_signed : (s : List ℕ) (at : ℕ) (n : ℤ) → Determined² (λ (r : ℕ) (after-s : List ℕ). (r ≡ at + length (signed_numeral n)) × (after-s ≡ put s at (signed_numeral n)))
  -- put_numeral (a leaf: it asks that at + length (numeral n) ≤ length s.old)
  pub put_numeral : (s : List ℕ) (at n : ℕ) → Determined² (λ (r : ℕ) (after-s : List ℕ). (r ≡ at + length (numeral n)) × (after-s ≡ put s at (numeral n)))
  -- put_words (a leaf: it asks that at + length words.now ≤ length s.old)
  pub put_words : (s : List ℕ) (at : ℕ) (words : List ℕ) → Determined² (λ (r : ℕ) (after-s : List ℕ). (r ≡ at + length words) × (after-s ≡ put s at words))
