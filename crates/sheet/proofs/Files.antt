-- Files of summaries: the rows of opening one, and that the pieces of a record, each summarized and written to a file, join to the record's summary.
-- Assumes nothing.
use Rattle.std.specs.Prelude.{Ok, Err}
use Prim.Native.Nat.{ℕ, zero, suc, ◌+◌, ◌≤◌}
use mathlib.Core.Bool.{true, false}
use mathlib.Core.List.{List, [], ◌∷◌, ◌++◌, map, flatten, append_assoc, append-nil}
use mathlib.Core.Path.{◌≡◌, refl, sym, ap, ◌∙◌}
use native.Mathlib.Omega.{arith}
use lib.Dec.{eqb}
use lib.ListN.{length, length-append}
use Rattle.decide.specs.Test.{Holds}
use Rattle.decide.specs.Refusal.{first_of, RefusedExactly}
use Rattle.decide.proofs.Number.{number_told}
use Rattle.decide.proofs.Given.{refused_exactly, in_order_lem}
use Rattle.shaper.specs.declared.Limits.{Limits}
use Rattle.shaper.specs.declared.Event.{Event}
use Rattle.shaper.specs.Limits.{limits_ok, most_events}
use Rattle.shaper.specs.Credit.{AllValid}
use Rattle.shaper.proofs.Credit.{valid_append}
use Rattle.summary.specs.declared.Summary.{Summary}
use Rattle.summary.specs.Summary.{summary_of}
use Rattle.summary.specs.Answer.{answered, join_of, and_then, answer_number}
use Rattle.summary.specs.Range.{in_range}
use Rattle.summary.proofs.Promises.{summary_range, join_append}
use Rattle.sheet.specs.Sheet.{sheet_length, sheet_of, summary_at}
use Rattle.sheet.specs.Files.{open_faults, opened_of, joined_from, joined_of, file_of}
use Rattle.sheet.proofs.Round.{length_sheet, summary_of_bytes, in_range_fits}
use Rattle.decide.specs.Number.{refusal_of}

-- ---- one file

module _ (xs : List ℕ) where
  pub open_2 : eqb (length xs) sheet_length ≡ false → opened_of xs ≡ Err (refusal_of 2)
  unfolding opened_of
  open_2 h = rw (in_order_lem (open_faults xs) refl, h)

  pub open_3 : eqb (length xs) sheet_length ≡ true → in_range (summary_at xs) ≡ false → opened_of xs ≡ Err (refusal_of 3)
  unfolding opened_of
  open_3 h r = rw (in_order_lem (open_faults xs) refl, h, r)

  pub opens : eqb (length xs) sheet_length ≡ true → in_range (summary_at xs) ≡ true → opened_of xs ≡ Ok (summary_at xs)
  unfolding opened_of
  opens h r = rw (in_order_lem (open_faults xs) refl, h, r)

  -- a number is given exactly when its row applies and none before it does
  pub open_refused_exactly : RefusedExactly (answer_number (opened_of xs)) (open_faults xs)
  unfolding opened_of
  open_refused_exactly = refused_exactly (open_faults xs) refl _ (by (first_of (open_faults xs)))
    where
      by : (n : ℕ) → answer_number (answered n (summary_at xs)) ≡ n
      by zero = refl
      by (suc n) = number_told (suc n)

-- What was written is opened as it was.
pub open_written : (s : Summary) → in_range s ≡ true → opened_of (sheet_of s) ≡ Ok s
open_written s h =
    let back : summary_at (sheet_of s) ≡ s = summary_of_bytes s (in_range_fits s h) in
    opens (sheet_of s) (rw (length_sheet s)) (ap in_range back ∙ h) ∙ ap Ok back

-- ---- the pieces of a record

module _ (l : Limits) where
  -- the file of a piece's summary
  abbrev pub piece_file : List Event → List ℕ
  piece_file es = file_of (Ok (summary_of l es))

  -- every event of every piece is valid
  abbrev pub ValidPieces : List (List Event) → Type 0
  ValidPieces [] = Unit {0}
  ValidPieces (es ∷ pieces) = AllValid l es × ValidPieces pieces

module _ (l : Limits) (ok : Holds (limits_ok l)) where
  piece_opened : (es : List Event) → AllValid l es → length es ≤ most_events → opened_of (piece_file l es) ≡ Ok (summary_of l es)
  piece_opened es v few = open_written (summary_of l es) (summary_range l ok es v few)

  -- Behind the summary of the events so far, the files of the pieces that follow give the summary of all.
  pub files_behind : (es : List Event) (pieces : List (List Event)) → AllValid l es → ValidPieces l pieces → length es + length (flatten pieces) ≤ most_events →
      joined_from (Ok (summary_of l es)) (map (piece_file l) pieces) ≡ Ok (summary_of l (es ++ flatten pieces))
  unfolding joined_from flatten
  files_behind es [] v w few = ap (λ fs. Ok (summary_of l fs)) (sym (append-nil es))
  files_behind es (fs ∷ pieces) v w few =
      let n = length-append fs (flatten pieces) in
      let m = length-append es fs in
      ap (λ a. joined_from (and_then a (λ t. join_of (summary_of l es) t)) (map (piece_file l) pieces)) (piece_opened fs w.0 (omega arith))
      ∙ ap (λ a. joined_from a (map (piece_file l) pieces)) (join_append l ok es fs v w.0 (omega arith))
      ∙ files_behind (es ++ fs) pieces (valid_append l es fs v w.0) w.1 (omega arith)
      ∙ ap (λ gs. Ok (summary_of l gs)) (append_assoc es fs (flatten pieces))

  -- The pieces of a record, each summarized on its own and kept in a file: joined in their order they give the summary of the whole.
  pub files_joined : (es : List Event) (pieces : List (List Event)) → AllValid l es → ValidPieces l pieces → length es + length (flatten pieces) ≤ most_events →
      joined_of (piece_file l es) (map (piece_file l) pieces) ≡ Ok (summary_of l (es ++ flatten pieces))
  files_joined es pieces v w few =
      ap (λ a. joined_from a (map (piece_file l) pieces)) (piece_opened es v (omega arith)) ∙ files_behind es pieces v w few
