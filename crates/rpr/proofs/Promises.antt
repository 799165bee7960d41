-- What a host may rely on: which number is answered and when, that a refusal leaves all, and what a carried out call wrote. What is written is in range, so
-- that its fields fit. Assumes nothing.
use Rattle.std.specs.Prelude.{Ok, Err, Some, None}
use Prim.Native.Nat.{ℕ, ◌+◌, ◌%◌, ◌≤◌, ◌<◌}
use mathlib.Core.Bool.{true}
use mathlib.Core.List.{List, [], ◌∷◌, ◌++◌}
use mathlib.Core.Logic.{inl, inr, ⊎_elim}
use mathlib.Core.Path.{◌≡◌, refl, sym, ap, ◌∙◌}
use native.Mathlib.Omega.{arith}
use borrow.Author.Tests.{not-false, ltb-false}
use lib.Dec.{leb}
use lib.ListN.{length}
use Rattle.decide.specs.Test.{test, split, ◌≡?◌}
use Rattle.decide.specs.Refusal.{first_of, RefusedExactly}
use Rattle.decide.proofs.Cases.{of_each}
use Rattle.decide.proofs.Given.{refused_exactly}
use Rattle.decide.proofs.Refused.{carried_by}
use Rattle.wire.specs.Wire.{digits, Bytes}
use Rattle.shaper.specs.declared.Limits.{Limits}
use Rattle.shaper.specs.Limits.{most_events, same_limits}
use Rattle.shaper.proofs.Ranges.{same_exactly}
use Rattle.summary.specs.declared.Summary.{Summary}
use Rattle.summary.specs.Summary.{joined}
use Rattle.summary.specs.Range.{in_range}
use Rattle.summary.specs.Answer.{settle_of, settled, answer_number, Answer, Outcome}
use Rattle.summary.proofs.Promises.{join_range, summary_range}
use Rattle.record.specs.Items.{Item, written_items, unrolled, Formed}
use Rattle.record.proofs.Wrote.{formed_events}
use Rattle.account.specs.Account.{summarize_of, Accounted}
use Rattle.account.proofs.Promises.{summarize_items, summarized_written}
use Rattle.sheet.specs.Sheet.{sheet_length, sheet_of, summary_at, handed}
use Rattle.sheet.proofs.Round.{summary_of_bytes, in_range_fits}
use Rattle.answer.specs.Bytes.{permitted_bytes}
use Rattle.answer.proofs.Bytes.{packed_bytes}
use Rattle.rpr.specs.Shape.{answer_of, after_of, Bears}
use Rattle.rpr.specs.Calls.{summarize_rows, summarize_answer, summarize_after, join_rows, join_answer, join_after, settle_rows, outcome_answer, settle_answer, Joined, EndsAt}
use Rattle.rpr.proofs.Shape.{most_number, wrong_length, first_most, number_alone, carried, refused_leaves}
use Rattle.rpr.proofs.Rows.{summarize_room, summarize_rows_lem, summarize_whole, settle_whole}
use Rattle.rpr.proofs.Numbers.{AnswerNumbered, record_numbered, answer_most}
use Rattle.rpr.proofs.Credit.{end_most}

-- ---- rpr_summarize

summarize_most : (xs room : List ℕ) → first_of (summarize_rows xs room) ≤ most_number
summarize_most xs room =
    ⊎_elim
    (λ e. let h = summarize_rows_lem xs room e in let k = answer_most (summarize_of xs) (record_numbered xs) in omega arith)
    (λ h. let k : first_of (summarize_rows xs room) ≡ 2 = wrong_length sheet_length room _ h in omega arith)
    (split (length room ≡? sheet_length))

module _ (xs room : List ℕ) where
  pub summarize_leaves : Bears (first_of (summarize_rows xs room)) (summarize_answer xs room)
      × (0 < first_of (summarize_rows xs room) → summarize_after xs room ≡ room)
  unfolding summarize_answer summarize_after
  summarize_leaves = refused_leaves (summarize_rows xs room) 0 room (handed room (summarize_of xs)) (summarize_most xs room) refl

  -- a number is given exactly when its row applies and none before it does
  pub summarize_refused_exactly : RefusedExactly (summarize_answer xs room % 256) (summarize_rows xs room)
  summarize_refused_exactly = refused_exactly (summarize_rows xs room) refl _ summarize_leaves.0.byte_0

  -- every well-formed record, of either form, is summarized,
  pub summarize_carried : (l : Limits) (is : List Item) → Formed true l is → xs ≡ written_items l is → length room ≡ sheet_length → summarize_answer xs room ≡ 0
  summarize_carried l is w e h =
      sym (summarize_whole xs room h _ refl).0 ∙ ap (λ ys. answer_number (summarize_of ys)) e ∙ ap answer_number (summarize_items true l is w)

  summed : Bytes xs → (a : Answer) → AnswerNumbered a → summarize_of xs ≡ a → answer_number a ≡ 0 → summarize_after xs room ≡ handed room a → Accounted true xs (summary_at (summarize_after xs room))
  summed b (Ok s) n e z after =
      let x = summarized_written true xs s b e in
      let w = formed_events true x.settings x.items x.formed in
      let r = summary_range x.settings w.settings (unrolled x.items) w.valid w.few in
      rw (after, summary_of_bytes s (in_range_fits s (ap in_range x.sums ∙ r))) x
  summed b (Err r) n e z after = absurd (omega arith)

  -- and where the call was carried out, the bytes are such a record, and the room holds the summary of its events, event by event
  pub summarize_done : Bytes xs → summarize_answer xs room ≡ 0 → Accounted true xs (summary_at (summarize_after xs room))
  summarize_done b z =
      ⊎_elim
      (λ e. let w = summarize_whole xs room e _ refl in summed b (summarize_of xs) (record_numbered xs) refl (w.0 ∙ z) (sym w.1))
      (λ h. let k = (summarize_room xs room h).0 in absurd (omega arith))
      (split (length room ≡? sheet_length))

-- ---- rpr_join

module _ (xs ys room : List ℕ) where
  pub join_leaves : Bears (first_of (join_rows xs ys room)) (join_answer xs ys room)
      × (0 < first_of (join_rows xs ys room) → join_after xs ys room ≡ room)
  unfolding join_answer join_after
  join_leaves = refused_leaves (join_rows xs ys room) 0 room (sheet_of (joined (summary_at xs) (summary_at ys))) (first_most (join_rows xs ys room) refl) refl

  pub join_refused_exactly : RefusedExactly (join_answer xs ys room % 256) (join_rows xs ys room)
  join_refused_exactly = refused_exactly (join_rows xs ys room) refl _ join_leaves.0.byte_0

  join_after_lem : join_answer xs ys room ≡ 0 → join_after xs ys room ≡ sheet_of (joined (summary_at xs) (summary_at ys))
  unfolding join_answer join_after answer_of after_of
  join_after_lem z = carried_by _ _ _ (number_alone (first_of (join_rows xs ys room)) ∙ z)

  join_in_range : join_answer xs ys room ≡ 0 → in_range (joined (summary_at xs) (summary_at ys)) ≡ true
  unfolding join_answer
  join_in_range z =
      let free = carried (join_rows xs ys room) refl z in
      let first = not-false (in_range (summary_at xs)) (free _ (inr (inr (inr (inl refl))))) in
      let second = not-false (in_range (summary_at ys)) (free _ (inr (inr (inr (inr (inl refl)))))) in
      let same = not-false (test (same_limits (summary_at xs).limits (summary_at ys).limits)) (free _ (inr (inr (inr (inr (inr (inl refl))))))) in
      let few = ltb-false most_events ((summary_at xs).events + (summary_at ys).events) (free _ (inr (inr (inr (inr (inr (inr (inl refl)))))))) in
      ⊎_elim (λ p. p.1) (λ p. absurd (omega (arith, p.1))) (join_range (summary_at xs) (summary_at ys) first second ((same_exactly _ _).0 same))

  pub join_done : join_answer xs ys room ≡ 0 → Joined xs ys room
  join_done z =
      let r = join_in_range z in
      record { in_range_lem = r; holds = ap summary_at (join_after_lem z) ∙ summary_of_bytes _ (in_range_fits _ r) }

-- ---- rpr_settle

-- a carried out call has byte 0 at 0
settled_low : (s : Summary) (c : ℕ) → outcome_answer (settled 0 s c) % 256 ≡ 0
settled_low s c = of_each (λ (o : Outcome). outcome_answer o % 256 ≡ 0) (leb s.need c) (Ok (Some _)) (Ok None) (λ e. omega arith) (λ e. refl)

permitted_bytes_lem : (end : ℕ) → digits 8 (outcome_answer (Ok (Some end))) ≡ (0 ∷ 1 ∷ 0 ∷ 0 ∷ []) ++ digits 4 end
unfolding digits
permitted_bytes_lem end = packed_bytes (permitted_bytes end) (omega arith)

module _ (xs : List ℕ) (start : ℕ) where
  pub settle_leaves : Bears (first_of (settle_rows xs start)) (settle_answer xs start)
  unfolding settle_answer
  settle_leaves = (refused_leaves (settle_rows xs start) (outcome_answer (settled 0 (summary_at xs) start)) [] [] (first_most (settle_rows xs start) refl) (settled_low (summary_at xs) start)).0

  pub settle_refused_exactly : RefusedExactly (settle_answer xs start % 256) (settle_rows xs start)
  settle_refused_exactly = refused_exactly (settle_rows xs start) refl _ settle_leaves.byte_0

  module _ (e : length xs ≡ sheet_length) where
    pub settle_permitted : (end : ℕ) → settle_of (summary_at xs) start ≡ Ok (Some end) → EndsAt (settle_answer xs start) end
    settle_permitted end o =
        let h = end_most (summary_at xs) start end o in
        record { bytes = ap (λ n. digits 8 n) (sym (settle_whole xs start e _ (sym o))) ∙ permitted_bytes_lem end; fits = omega arith }

    pub settle_not_permitted : settle_of (summary_at xs) start ≡ Ok None → settle_answer xs start ≡ 0
    settle_not_permitted o = sym (settle_whole xs start e _ (sym o))
