-- A run of equal ticks: its summary in closed form is that of its events, and joining it is joining its events one by one.
-- Assumes nothing.
use Rattle.std.specs.Prelude.{Ok, Err}
use Prim.Native.Nat.{ℕ, zero, suc, ◌+◌, ◌*◌, ◌≤◌, ◌<◌}
use mathlib.Core.Bool.{true, false}
use mathlib.Core.List.{[], ◌∷◌}
use mathlib.Core.Logic.{inl, inr}
use mathlib.Core.Path.{◌≡◌, refl, sym, ap, ◌∙◌}
use native.Mathlib.Numerals.{add-one}
use native.Mathlib.Omega.{arith}
use borrow.Author.Tests.{ne_eqb}
use lib.ListN.{replicate, length-replicate, replicate-append-replicate}
use Rattle.decide.specs.Number.{refusal_of}
use Rattle.decide.specs.declared.refusal.Refusal.{Refusal}
use Rattle.decide.specs.Test.{Holds, test, facts, passes, decided, split, ◌≡?◌}
use Rattle.decide.proofs.Cases.{by_cases, true_or_false, le_or}
use Rattle.shaper.specs.declared.Limits.{Limits}
use Rattle.shaper.specs.declared.Event.{Event}
use Rattle.shaper.specs.declared.Event.TheVariants.{Waiting, Idle, Send}
use Rattle.shaper.specs.Limits.{limits_ok, most_events}
use Rattle.shaper.specs.Credit.{event_ok, Valid}
use Rattle.shaper.specs.Kind.{kind_of, event_of}
use Rattle.shaper.proofs.Ranges.{valid_exactly}
use Rattle.plain.specs.Plain.{plain_run}
use Rattle.plain.specs.Range.{count_ok}
use Rattle.plain.proofs.Runs.{run_valid, plain_alone, run_plain}
use Rattle.summary.specs.declared.Summary.{Summary}
use Rattle.summary.specs.Summary.{ticks_of, single_of, run_summary, joined, summary_of}
use Rattle.summary.specs.Range.{in_range}
use Rattle.summary.specs.Answer.{single_answer, counted_answer, run_answer, join_of, and_then, join_next, one_more_of, counted_of}
use Rattle.summary.specs.Plain.{signed_from}
use Rattle.summary.proofs.Rows.{single_1, single_3, single_made, counted_1, counted_3_number, counted_3_count, counted_9, counted_made, run_3, run_9, run_made, join_3_first}
use Rattle.summary.proofs.Promises.{waiting_signed, idle_signed, single_signed, summary_signed, summary_limits, summary_range, joined_limits, join_range, join_associative, join_append}

-- Kind 3 send.
pub event_send : (k n : ℕ) → (k ≡ 1 → ⊥) → (k ≡ 2 → ⊥) → event_of k n ≡ Send n
unfolding event_of
event_send k n p q = rw (ne_eqb k 1 p, ne_eqb k 2 q)

-- ---- the closed form

module _ (l : Limits) (ok : Holds (limits_ok l)) where
  run_signed : (e : Event) (c : ℕ) → run_summary l e c ≡ signed_from (plain_run l e c)
  run_signed (Waiting x) c = waiting_signed l ok c _
  run_signed (Idle x) c = idle_signed l ok c _
  run_signed (Send z) c = single_signed l ok (Send z)

  -- Run summary in closed form: accrued count × amount, ceiling hiLimit waiting, loLimit idle, need 0.
  pub run_closed : (e : Event) → Valid l e → (c : ℕ) → Holds (count_ok e c) → summary_of l (replicate c e) ≡ run_summary l e c
  run_closed e v c h = summary_signed l ok (replicate c e) ∙ ap signed_from (run_plain l ok e v c h) ∙ sym (run_signed e c)

  -- one event alone
  pub single_closed : (e : Event) → Valid l e → summary_of l (e ∷ []) ≡ single_of l e
  single_closed e v = summary_signed l ok (e ∷ []) ∙ ap signed_from (plain_alone l ok e v) ∙ sym (single_signed l ok e)

  -- ---- what is answered

  settings : test (limits_ok l) ≡ true
  settings = passes (limits_ok l) ok

  pub counted_summed : (e : Event) → Valid l e → (c : ℕ) → Holds (count_ok e c) → c ≤ most_events → counted_answer l e c ≡ Ok (summary_of l (replicate c e))
  counted_summed e v c h n = counted_made l e c settings ((valid_exactly l e).1 v) (passes (count_ok e c) h) n

  -- a run of ticks that leave credit under one ceiling
  pub counted_run : (e : Event) → Valid l e → kind_of e < 3 → (ceiling x c : ℕ) → run_summary l e c ≡ ticks_of l ceiling c (c * x) → run_answer l ceiling x c ≡ counted_answer l e c
  counted_run e v k ceiling x c s =
      by_cases (split (c ≡? 0))
      (λ z. run_3 l ceiling x c z ∙ sym (counted_3_count l e c settings (sym (decided (count_ok e c) false (λ h. omega arith)))))
      (λ z. by_cases (le_or c most_events)
      (λ n. run_made l ceiling x c z n ∙ ap Ok (sym (run_closed e v c (some z) ∙ s)) ∙ sym (counted_summed e v c (some z) n))
      (λ n. run_9 l ceiling x c n ∙ sym (counted_9 l e c settings ((valid_exactly l e).1 v) (passes (count_ok e c) (some z)) n)))
    where
      some : (c ≡ 0 → ⊥) → Holds (count_ok e c)
      some z = (omega arith, inr k)

  -- an event alone
  pub counted_alone : (e : Event) (c : ℕ) → c ≡ 1 → single_answer l e ≡ counted_answer l e c
  counted_alone e c h =
      by_cases (true_or_false (test (event_ok l e)))
      (λ v. single_made l e settings v ∙ ap Ok (sym (single_closed e ((valid_exactly l e).0 v)))
      ∙ sym (rw h (counted_summed e ((valid_exactly l e).0 v) 1 (omega arith, inl refl) (omega arith))))
      (λ v. single_3 l e settings v ∙ sym (counted_3_number l e c settings v))

-- ---- one by one

-- a refusal of the first stays
first_refused : (s : Summary) (e : Event) (r : Refusal) → one_more_of s e ≡ Err r → (c : ℕ) → counted_of (suc c) s e ≡ Err r
unfolding counted_of
first_refused s e r h zero = h
first_refused s e r h (suc c) = rw (first_refused s e r h c)

module _ (s : Summary) (ok : Holds (limits_ok s.limits)) (e : Event) (v : Valid s.limits e) where
  -- c events of those settings
  abbrev times : ℕ → Summary
  times c = summary_of s.limits (replicate c e)

  -- one more, onto any summary of those settings
  joins_one : (t : Summary) → t.limits ≡ s.limits → one_more_of t e ≡ join_of t (times 1)
  joins_one t m =
      ap (λ k. join_next t (single_answer k e)) m
      ∙ ap (join_next t) (single_made s.limits e (settings s.limits ok) ((valid_exactly s.limits e).1 v) ∙ ap Ok (sym (single_closed s.limits ok e v)))

  times_range : (c : ℕ) → c ≤ most_events → in_range (times c) ≡ true
  times_range c n = let k = length-replicate c e in summary_range s.limits ok (replicate c e) (run_valid s.limits e v c) (omega arith)

  -- the next event goes over to those joined before
  joins_next : in_range s ≡ true → (c : ℕ) → c + 1 ≤ most_events → and_then (join_of s (times c)) (λ t. one_more_of t e) ≡ join_of s (times (c + 1))
  joins_next r c n =
      let k = times_range c (omega arith) in
      let long = length-replicate c e in
      let same = sym (summary_limits s.limits ok (replicate c e)) in
      by_cases (join_range s (times c) r k same)
      (λ h. rw h.0 (joins_one (joined s (times c)) (joined_limits s (times c) r k same)))
      (λ h. rw h.0 refl)
      ∙ join_associative s (times c) (times 1) r k (times_range 1 (omega arith)) same (sym same ∙ sym (summary_limits s.limits ok (replicate 1 e)))
      ∙ ap (λ a. and_then a (λ z. join_of s z)) (join_append s.limits ok (replicate c e) (replicate 1 e) (run_valid s.limits e v c) (run_valid s.limits e v 1) (omega arith))
      ∙ ap (λ es. join_of s (summary_of s.limits es)) (replicate-append-replicate c 1 e)

  joins_all : in_range s ≡ true → (c : ℕ) → suc c ≤ most_events → counted_of (suc c) s e ≡ join_of s (times (suc c))
  unfolding counted_of
  joins_all r zero n = joins_one s refl
  joins_all r (suc c) n = ap (λ a. and_then a (λ t. one_more_of t e)) (joins_all r c (omega arith)) ∙ joins_next r (suc c) (omega arith) ∙ ap (λ k. join_of s (times k)) (add-one (suc c))

-- Joining what an item stands for is joining its events one by one, whatever they are joined to.
pub counted_one_by_one : (s : Summary) (e : Event) (c : ℕ) → Holds (count_ok e c) → c ≤ most_events → join_next s (counted_answer s.limits e c) ≡ counted_of c s e
counted_one_by_one s e zero h n = absurd (omega arith)
counted_one_by_one s e (suc c) h n =
    by_cases (true_or_false (test (limits_ok s.limits)))
    (λ o. by_cases (true_or_false (test (event_ok s.limits e))) (λ v. valid (facts (limits_ok s.limits) o) ((valid_exactly s.limits e).0 v))
    (λ v. rw (counted_3_number s.limits e (suc c) o v) (sym (first_refused s e (refusal_of 3) (rw (single_3 s.limits e o v)) c))))
    (λ o. rw (counted_1 s.limits e (suc c) o) (sym (first_refused s e (refusal_of 1) (rw (single_1 s.limits e o)) c)))
  where
    valid : Holds (limits_ok s.limits) → Valid s.limits e → join_next s (counted_answer s.limits e (suc c)) ≡ counted_of (suc c) s e
    valid ok v =
        ap (join_next s) (counted_summed s.limits ok e v (suc c) h n)
        ∙ by_cases (true_or_false (in_range s))
        (λ r. sym (joins_all s ok e v r c n))
        (λ r. join_3_first s _ r ∙ sym (first_refused s e (refusal_of 3) (joins_one s ok e v s refl ∙ join_3_first s _ r) c))
