-- What each call answers and leaves, by the tests that lead there: a slice of another length, and else what the bytes hold.
-- Assumes nothing.
use Rattle.std.specs.Prelude.{Ok, Err}
use Prim.Native.Nat.{ℕ, zero, suc}
use mathlib.Core.Bool.{Bool, cond, not}
use mathlib.Core.List.{List, [], ◌∷◌}
use mathlib.Core.Path.{◌≡◌, refl, ap, ◌∙◌}
use native.Mathlib.Omega.{arith}
use borrow.Author.Tests.{ne_eqb}
use lib.ListN.{length}
use Rattle.decide.specs.Number.{number_in}
use Rattle.decide.proofs.Number.{number_told}
use Rattle.decide.specs.Refusal.{nothing, row, first, number_of, first_of, refused_or}
use Rattle.summary.specs.declared.Summary.{Summary}
use Rattle.summary.specs.Summary.{joined}
use Rattle.summary.specs.Answer.{answered, join_faults, join_of, settle_faults, settle_of, settled, answer_number, Answer, Outcome}
use Rattle.account.specs.Account.{summarize_of}
use Rattle.sheet.specs.Sheet.{sheet_length, sheet_of, summary_at, handed}
use Rattle.rpr.specs.Shape.{answer_of, after_of}
use Rattle.rpr.specs.Calls.{record_fault, summarize_rows, summarize_answer, summarize_after, join_rows, join_answer, join_after, settle_rows, outcome_answer, settle_answer}
use Rattle.rpr.proofs.Shape.{wrong_length, right_length, number_alone, refused}

-- ---- rpr_summarize

-- the record's row gives what the record comes to
record_row : (n : ℕ) → first_of (record_fault n ∷ []) ≡ n
unfolding first_of first
record_row zero = refl
record_row (suc n) = ap (λ (b : Bool). number_of (cond (not b) (row (record_fault (suc n))) nothing)) (ne_eqb (suc n) 0 (λ e. omega arith))

handed_alone : (room : List ℕ) (a : Answer) → handed room a ≡ refused_or (λ m. room) (answer_number a) (handed room a)
unfolding refused_or
handed_alone room (Ok s) = refl
handed_alone room (Err r) = alone (number_in r)
  where
    alone : (n : ℕ) → room ≡ refused_or (λ m. room) n room
    alone zero = refl
    alone (suc n) = refl

module _ (xs room : List ℕ) where
  -- the answer, and the room afterwards
  abbrev pub SummarizeGives : ℕ → List ℕ → Type 0
  SummarizeGives r after = (r ≡ summarize_answer xs room) × (after ≡ summarize_after xs room)

  -- 2: the room is no summary's
  pub summarize_room : (length room ≡ sheet_length → ⊥) → SummarizeGives 2 room
  unfolding summarize_answer summarize_after
  summarize_room h = refused (summarize_rows xs room) 0 room (handed room (summarize_of xs)) 1 (wrong_length sheet_length room _ h)

  -- else what the record comes to
  pub summarize_rows_lem : length room ≡ sheet_length → first_of (summarize_rows xs room) ≡ answer_number (summarize_of xs)
  summarize_rows_lem e = right_length sheet_length room _ e ∙ record_row (answer_number (summarize_of xs))

  pub summarize_whole : length room ≡ sheet_length → (a : Answer) → a ≡ summarize_of xs → SummarizeGives (answer_number a) (handed room a)
  unfolding summarize_answer summarize_after answer_of after_of
  summarize_whole e a h = rw (h, summarize_rows_lem e) (number_alone (answer_number (summarize_of xs)), handed_alone room (summarize_of xs))

-- ---- rpr_join

-- a summary's answer, by the number of its first fault
number_is : (n : ℕ) (s : Summary) → answer_number (answered n s) ≡ refused_or (λ m. m) n 0
unfolding refused_or
number_is zero s = refl
number_is (suc n) s = number_told (suc n)

handed_is : (n : ℕ) (s : Summary) (room : List ℕ) → handed room (answered n s) ≡ refused_or (λ m. room) n (sheet_of s)
unfolding refused_or
handed_is zero s room = refl
handed_is (suc n) s room = refl

module _ (xs ys room : List ℕ) where
  -- the answer, and the room afterwards
  abbrev pub JoinGives : ℕ → List ℕ → Type 0
  JoinGives r after = (r ≡ join_answer xs ys room) × (after ≡ join_after xs ys room)

  join_refused_lem : first_of (join_rows xs ys room) ≡ 2 → JoinGives 2 room
  unfolding join_answer join_after
  join_refused_lem e = refused (join_rows xs ys room) 0 room (sheet_of (joined (summary_at xs) (summary_at ys))) 1 e

  -- 2: the first, the second or the room is no summary's
  pub join_first : (length xs ≡ sheet_length → ⊥) → JoinGives 2 room
  join_first h = join_refused_lem (wrong_length sheet_length xs _ h)

  pub join_second : length xs ≡ sheet_length → (length ys ≡ sheet_length → ⊥) → JoinGives 2 room
  join_second e h = join_refused_lem (right_length sheet_length xs _ e ∙ wrong_length sheet_length ys _ h)

  pub join_room : length xs ≡ sheet_length → length ys ≡ sheet_length → (length room ≡ sheet_length → ⊥) → JoinGives 2 room
  join_room e f h = join_refused_lem (right_length sheet_length xs _ e ∙ right_length sheet_length ys _ f ∙ wrong_length sheet_length room _ h)

  -- else what the two summaries come to
  pub join_rows_lem : length xs ≡ sheet_length → length ys ≡ sheet_length → length room ≡ sheet_length → first_of (join_rows xs ys room) ≡ first_of (join_faults (summary_at xs) (summary_at ys))
  join_rows_lem e f g = right_length sheet_length xs _ e ∙ right_length sheet_length ys _ f ∙ right_length sheet_length room _ g

  pub join_whole : length xs ≡ sheet_length → length ys ≡ sheet_length → length room ≡ sheet_length →
      (a : Answer) → a ≡ join_of (summary_at xs) (summary_at ys) → JoinGives (answer_number a) (handed room a)
  unfolding join_answer join_after answer_of after_of join_of
  join_whole e f g a h =
      let n : ℕ = first_of (join_faults (summary_at xs) (summary_at ys)) in
      rw (h, join_rows_lem e f g) (number_is n _, handed_is n _ room)

-- ---- rpr_settle

outcome_is : (n : ℕ) (s : Summary) (c : ℕ) → outcome_answer (settled n s c) ≡ refused_or (λ m. m) n (outcome_answer (settled 0 s c))
unfolding refused_or
outcome_is zero s c = refl
outcome_is (suc n) s c = number_told (suc n)

module _ (xs : List ℕ) (start : ℕ) where
  -- 2: the slice is no summary's
  pub settle_length : (length xs ≡ sheet_length → ⊥) → 2 ≡ settle_answer xs start
  unfolding settle_answer
  settle_length h = (refused (settle_rows xs start) _ [] [] 1 (wrong_length sheet_length xs _ h)).0

  -- else what the summary says of the starting credit
  pub settle_whole : length xs ≡ sheet_length → (o : Outcome) → o ≡ settle_of (summary_at xs) start → outcome_answer o ≡ settle_answer xs start
  unfolding settle_answer answer_of settle_of
  settle_whole e o h =
      ap outcome_answer h
      ∙ rw (right_length sheet_length xs (settle_faults (summary_at xs) start) e) (outcome_is (first_of (settle_faults (summary_at xs) start)) (summary_at xs) start)
