-- Windows are alike exactly if their bytes are equal, and two summaries are the same exactly if they are equal. So what is summed once is what each
-- record comes to.
-- Assumes nothing.
use Rattle.std.specs.Prelude.{Ok, Err}
use Rattle.std.specs.Ordering.{int_eq, int_cmp}
use Rattle.std.specs.Prelude.{◌<ℤ◌}
use Rattle.std.proofs.lemmas.Cmp.{int_ranked, int_eq_equiv, by_ranked}
use Prim.Native.Nat.{ℕ, zero, suc, ◌<◌}
use mathlib.Core.Bool.{Bool, true, false, false≢true}
use mathlib.Core.List.{List}
use mathlib.Core.Logic.{◌↔◌}
use mathlib.Core.Path.{◌≡◌, refl, sym, ap}
use native.Mathlib.Omega.{arith}
use borrow.Author.Tests.{eq-eqb, eqb-true}
use lib.Dec.{eqb}
use lib.IntN.{ℤ, pos, negsuc}
use lib.ListN.{length, get_or}
use lib.Seq.{ext_get_or}
use Rattle.decide.specs.Test.{test, both, and_i, facts, passes}
use Rattle.decide.proofs.Cases.{by_cases, le_or}
use Rattle.shaper.specs.Limits.{same_limits}
use Rattle.shaper.proofs.Ranges.{same_exactly}
use Rattle.summary.specs.declared.Summary.{Summary}
use Rattle.summary.proofs.Paper.{signed_eq}
use Rattle.window.specs.Both.{alike_to, alike_of, eq_ℤ, same_numbers, same_summary, same_answer_of}
use Rattle.summary.specs.Answer.{Answer}

-- two tests that hold of the same are one
pub agree : (b c : Bool) → (b ≡ true → c ≡ true) → (c ≡ true → b ≡ true) → b ≡ c
agree true c f g = sym (f refl)
agree false true f g = g refl
agree false false f g = refl

-- ---- windows

-- each of the first k bytes
alike_each : (k : ℕ) (w v : List ℕ) → alike_to k w v ≡ true → (j : ℕ) → j < k → get_or w j 0 ≡ get_or v j 0
unfolding alike_to
alike_each zero w v e j h = absurd (omega arith)
alike_each (suc k) w v e j h =
    let parts = both (alike_to k w v) (eqb (get_or w k 0) (get_or v k 0)) e in
    by_cases (le_or k j)
    (λ last. let here : j ≡ k = omega arith in rw here (eqb-true _ _ parts.1))
    (λ below. alike_each k w v parts.0 j below)

alike_self : (k : ℕ) (w : List ℕ) → alike_to k w w ≡ true
unfolding alike_to
alike_self zero w = refl
alike_self (suc k) w = and_i (alike_to k w w) (eqb (get_or w k 0) (get_or w k 0)) (alike_self k w) (eq-eqb (get_or w k 0) (get_or w k 0) refl)

pub alike_exactly : (w v : List ℕ) → (alike_of w v ≡ true) ↔ (w ≡ v)
unfolding alike_of
alike_exactly w v = (
  λ e.
      let parts = both (eqb (length w) (length v)) (alike_to (length w) w v) e in
      ext_get_or 0 w v (eqb-true _ _ parts.0) (alike_each (length w) w v parts.1),
  λ same. rw (← same) (and_i (eqb (length w) (length w)) (alike_to (length w) w w) (eq-eqb (length w) (length w) refl) (alike_self (length w) w)),
)

-- ---- summaries

equal_signed : (x y : ℤ) → eq_ℤ x y ≡ true → x ≡ y
equal_signed (pos m) (pos n) e = ap pos (eqb-true m n e)
equal_signed (pos m) (negsuc n) e = absurd (false≢true e)
equal_signed (negsuc m) (pos n) e = absurd (false≢true e)
equal_signed (negsuc m) (negsuc n) e = ap negsuc (eqb-true m n e)

signed_self : (x : ℤ) → eq_ℤ x x ≡ true
signed_self (pos m) = eq-eqb m m refl
signed_self (negsuc m) = eq-eqb m m refl

-- std's equality of signed numbers is that one
equal_int : (x y : ℤ) → int_eq x y ≡ true → x ≡ y
equal_int x y e =
    by_ranked (x <ℤ y) (x ≡ y) (y <ℤ x) (int_cmp x y) (int_ranked x y (int_cmp x y) refl)
    (λ o h. absurd (false≢true (rw o at e)))
    (λ o h. h)
    (λ o h. absurd (false≢true (rw o at e)))

pub equal_ℤ : (x y : ℤ) → int_eq x y ≡ eq_ℤ x y
equal_ℤ x y =
    agree (int_eq x y) (eq_ℤ x y) (λ e. rw (← equal_int x y e) (signed_self x)) (λ e. rw (← equal_signed x y e) (int_eq_equiv.refl x))

pub same_summary_lem : (s t : Summary) → (same_summary s t ≡ true) ↔ (s ≡ t)
unfolding same_summary
same_summary_lem s t = (
  λ e.
      let parts = both (test (same_numbers s t)) (eq_ℤ s.ceiling t.ceiling) e in
      let f = facts (same_numbers s t) parts.0 in
      signed_eq s t ((same_exactly s.limits t.limits).0 (passes (same_limits s.limits t.limits) f.0)) f.1.0 f.1.1.0 f.1.1.1.0
      (equal_signed s.ceiling t.ceiling parts.1)
      f.1.1.1.1,
  λ same. rw (← same) (and_i (test (same_numbers s s)) (eq_ℤ s.ceiling s.ceiling) (passes (same_numbers s s) (omega arith)) (signed_self s.ceiling)),
)

pub same_answers : (a b : Answer) → same_answer_of a b ≡ true → a ≡ b
same_answers (Ok s) (Ok t) e = ap Ok ((same_summary_lem s t).0 e)
same_answers (Ok s) (Err r) e = absurd (false≢true e)
same_answers (Err r) b e = absurd (false≢true e)
