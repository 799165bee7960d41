-- The range test of a summary says exactly the named facts, and so does that of a starting credit.
-- Assumes nothing.
use Prim.Native.Nat.{ℕ, ◌+◌, ◌*◌, ◌≤◌}
use mathlib.Core.Bool.{Bool, true, false, false≢true, ◌&&◌, ◌||◌}
use mathlib.Core.Logic.{◌↔◌, ⊎_elim}
use mathlib.Core.Path.{◌≡◌, refl}
use native.Mathlib.Omega.{arith}
use borrow.Author.Tests.{leb-true, ltb-true, ltb-false, le-leb, lt-ltb, le-ltb}
use lib.Dec.{T, leb, ltb}
use lib.IntN.{ℤ, pos, neg_ℤ, ◌+ℤ◌}
use lib.Signed.{le_z, ◌≤ℤ◌, le_z_yes}
use Rattle.decide.specs.Test.{test, both, either, and_i, or_r}
use Rattle.decide.proofs.Cases.{by_cases, le_or}
use Rattle.shaper.specs.Limits.{limits_ok, most_size, most_amount, most_events}
use Rattle.shaper.proofs.Ranges.{limits_exactly}
use Rattle.summary.specs.declared.Summary.{Summary}
use Rattle.summary.specs.Summary.{gain}
use Rattle.summary.specs.Range.{counts_ok, ceiling_ok, need_ok, in_range, InRange}

-- ---- the order of integers, as a test and as a fact

tested : (b : Bool) → T b → b ≡ true
tested true t = refl
tested false t = absurd t

told : (b : Bool) → b ≡ true → T b
told true e = tt
told false e = absurd (false≢true e)

pub ordered : (x y : ℤ) → le_z x y ≡ true → x ≤ℤ y
ordered x y e = le_z_yes (told (le_z x y) e)

pub ordered_test : (x y : ℤ) → x ≤ℤ y → le_z x y ≡ true
ordered_test x y h = tested (le_z x y) h.le

-- ---- the test and the facts

module _ (s : Summary) where
  range_facts : in_range s ≡ true → InRange s
  unfolding in_range
  range_facts h =
      let a = both (test (limits_ok s.limits)) (leb s.events most_events && (counts_ok s && (ceiling_ok s && need_ok s))) h in
      let b = both (leb s.events most_events) (counts_ok s && (ceiling_ok s && need_ok s)) a.1 in
      let k = both (counts_ok s) (ceiling_ok s && need_ok s) b.1 in
      let n = both (ceiling_ok s) (need_ok s) k.1 in
      let k2 = both (leb s.accrued (most_amount * s.events)) (leb s.sent (most_size * s.events)) k.0 in
      let e = both (le_z s.ceiling (pos s.limits.hi)) (le_z s.ceiling (pos s.limits.hi +ℤ gain s) && le_z (neg_ℤ (pos (most_size * s.events))) s.ceiling) n.0 in
      let e2 = both (le_z s.ceiling (pos s.limits.hi +ℤ gain s)) (le_z (neg_ℤ (pos (most_size * s.events))) s.ceiling) e.1 in
      let m = both (leb s.need (s.limits.hi + 1)) (ltb s.limits.hi s.need || (le_z (pos 0) s.ceiling && le_z (pos 0) (pos s.need +ℤ gain s))) n.1 in
      record {
        settings_valid = (limits_exactly s.limits).0 a.0;
        events_most = leb-true s.events most_events b.0;
        accrued_most = leb-true s.accrued (most_amount * s.events) k2.0;
        sent_most = leb-true s.sent (most_size * s.events) k2.1;
        ceiling_most = ordered s.ceiling (pos s.limits.hi) e.0;
        ceiling_gained = ordered s.ceiling (pos s.limits.hi +ℤ gain s) e2.0;
        ceiling_least = ordered (neg_ℤ (pos (most_size * s.events))) s.ceiling e2.1;
        need_most = leb-true s.need (s.limits.hi + 1) m.0;
        ceiling_usable = λ h. ordered (pos 0) s.ceiling (used m.1 h).0;
        need_usable = λ h. ordered (pos 0) (pos s.need +ℤ gain s) (used m.1 h).1;
      }
    where
      used : (ltb s.limits.hi s.need || (le_z (pos 0) s.ceiling && le_z (pos 0) (pos s.need +ℤ gain s))) ≡ true → s.need ≤ s.limits.hi
          → (le_z (pos 0) s.ceiling ≡ true) × (le_z (pos 0) (pos s.need +ℤ gain s) ≡ true)
      used u h =
          ⊎_elim
          (λ v. let z = ltb-true s.limits.hi s.need v in absurd (omega arith))
          (λ v. both (le_z (pos 0) s.ceiling) (le_z (pos 0) (pos s.need +ℤ gain s)) v)
          (either (ltb s.limits.hi s.need) (le_z (pos 0) s.ceiling && le_z (pos 0) (pos s.need +ℤ gain s)) u)

  facts_range : InRange s → in_range s ≡ true
  unfolding in_range
  facts_range r =
      and_i (test (limits_ok s.limits)) _ ((limits_exactly s.limits).1 r.settings_valid)
      (and_i (leb s.events most_events) _ (le-leb s.events most_events r.events_most)
      (and_i (counts_ok s) _ counts (and_i (ceiling_ok s) (need_ok s) ceilings needs)))
    where
      counts : counts_ok s ≡ true
      counts =
          and_i (leb s.accrued (most_amount * s.events)) (leb s.sent (most_size * s.events))
          (le-leb s.accrued (most_amount * s.events) r.accrued_most) (le-leb s.sent (most_size * s.events) r.sent_most)

      ceilings : ceiling_ok s ≡ true
      ceilings =
          and_i (le_z s.ceiling (pos s.limits.hi)) _ (ordered_test s.ceiling (pos s.limits.hi) r.ceiling_most)
          (and_i (le_z s.ceiling (pos s.limits.hi +ℤ gain s)) _ (ordered_test s.ceiling (pos s.limits.hi +ℤ gain s) r.ceiling_gained)
          (ordered_test (neg_ℤ (pos (most_size * s.events))) s.ceiling r.ceiling_least))

      needs : need_ok s ≡ true
      needs =
          and_i (leb s.need (s.limits.hi + 1)) _ (le-leb s.need (s.limits.hi + 1) r.need_most)
          (by_cases (le_or s.need s.limits.hi)
          (λ h. or_r (ltb s.limits.hi s.need) _
          (and_i (le_z (pos 0) s.ceiling) _ (ordered_test (pos 0) s.ceiling (r.ceiling_usable h)) (ordered_test (pos 0) (pos s.need +ℤ gain s) (r.need_usable h))))
          (λ h. rw (lt-ltb s.limits.hi s.need h)))

  -- In range: each bound, and no other.
  pub in_range_exactly : (in_range s ≡ true) ↔ InRange s
  in_range_exactly = (range_facts, facts_range)

  -- A starting credit is 0 to hiLimit.
  pub starting_credit_exactly : (c : ℕ) → (ltb s.limits.hi c ≡ false) ↔ (c ≤ s.limits.hi)
  starting_credit_exactly c = (ltb-false s.limits.hi c, le-ltb s.limits.hi c)
