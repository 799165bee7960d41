-- Public functions of `sheet`, by name: two answers that meet the contract are equal.
-- Assumes nothing.
use Rattle.decide.specs.declared.refusal.Refusal.{Refusal}
use Rattle.sheet.specs.Files.{joined_with, opened_of}
use Rattle.sheet.specs.Sheet.{handed, sheet_of, summary_at}
use Rattle.std.specs.Prelude.{List, Result, ℕ, ◌≡◌}
use Rattle.summary.specs.Answer.{answer_number}
use Rattle.summary.specs.declared.Summary.{Summary}
use Rattle.paper.specs.Determined.{Determined, Determined²}

pub record Functions : Type 0 where
  -- read (a leaf: it asks that length s.now ≡ sheet_length)
  pub read : (s : List ℕ) → Determined (λ (r : Summary). r ≡ summary_at s)
  -- write (a leaf: it asks that length s.old ≡ sheet_length)
  pub write : (v : Summary) (s : List ℕ) → Determined (λ (after-s : List ℕ). after-s ≡ sheet_of v)
  -- hand_over (a leaf: it asks that length room.old ≡ sheet_length)
  pub hand_over : (answer : Result Summary Refusal) (room : List ℕ) → Determined² (λ (r : ℕ) (after-room : List ℕ). (r ≡ answer_number answer) × (after-room ≡ handed room answer))
  -- opened
  pub opened : (s : List ℕ) → Determined (λ (r : Result Summary Refusal). r ≡ opened_of s)
  -- joined
  pub joined : (before : Result Summary Refusal) (s : List ℕ) → Determined (λ (r : Result Summary Refusal). r ≡ joined_with before s)
