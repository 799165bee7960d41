-- The paper's signed formulas are those by natural numbers: the join, the end credit, the range.
-- Assumes nothing.
use Prim.Native.Nat.{ℕ, ◌+◌, ◌-◌, ◌*◌, ◌≤◌, max}
use mathlib.Core.Bool.{Bool, true, false, true≢false}
use mathlib.Core.Logic.{inl, inr, ⊎_elim}
use mathlib.Core.Path.{◌≡◌, refl, sym, ap, ◌∙◌}
use native.Mathlib.Omega.{arith}
use borrow.Author.Tests.{leb-true, le-leb, lt-leb, not-true, not-false}
use lib.IntN.{pos, sub_ℕ, nat_abs, ◌+ℤ◌}
use lib.Signed.{le_z, lt_z, ◌≤ℤ◌}
use Rattle.decide.specs.Test.{Holds, test, facts, passes}
use Rattle.decide.proofs.Cases.{by_cases, true_or_false, le_or}
use Rattle.shaper.specs.Limits.{same_limits, most_size}
use Rattle.shaper.proofs.Ranges.{limits_facts, facts_limits}
use Rattle.plain.specs.declared.Plain.{Plain}
use Rattle.plain.specs.Plain.{plain_need, plain_depth, plain_joined, plain_end_of}
use Rattle.plain.specs.Range.{plain_range, Sound, Same, Small}
use Rattle.plain.proofs.Laws.{in_range_sound, depth_least, depth_is, need_is, plain_eq, ends}
use Rattle.plain.proofs.Ceiling.{depth_ceiling, ceiling_depth}
use Rattle.summary.specs.declared.Summary.{Summary}
use Rattle.summary.specs.Summary.{gain, ceiling_of, need_ℤ, joined, end_ℤ}
use Rattle.summary.specs.Range.{in_range, InRange}
use Rattle.summary.specs.Plain.{plain_from, signed_from}
use Rattle.summary.proofs.Range.{ordered, ordered_test, in_range_exactly}
use Rattle.summary.proofs.Integers.{sub_add, sub_le, sub_order, pos_sub, pos_less, pos_add, less_sub, neg_is, below_not, smaller_is, larger_pos, smaller_pos}

-- ---- a summary and its natural numbers

pub signed_eq : (a b : Summary) → a.limits ≡ b.limits → a.events ≡ b.events → a.accrued ≡ b.accrued → a.sent ≡ b.sent → a.ceiling ≡ b.ceiling → a.need ≡ b.need → a ≡ b
signed_eq a b l e x s c n = λ i. record { limits = l i; events = e i; accrued = x i; sent = s i; ceiling = c i; need = n i }

-- ---- join

module _ (p q : Plain) (same : Same p q) where
  ceiling_signed : ceiling_of (signed_from p) (signed_from q) ≡ sub_ℕ p.limits.hi (plain_depth p q)
  unfolding ceiling_of
  ceiling_signed =
      let d = depth_least p q in
      rw (pos_less q.accrued q.sent, sub_add p.limits.hi p.depth q.accrued q.sent)
      (smaller_is (p.limits.hi + q.accrued) (p.depth + q.sent) q.limits.hi q.depth p.limits.hi (plain_depth p q)
      (λ h. ⊎_elim (λ e. omega arith) (λ e. omega arith) (depth_is p q))
      (λ h. ⊎_elim (λ e. omega arith) (λ e. omega arith) (depth_is p q)))

  -- need is never negative: it is the natural number
  pub need_signed : need_ℤ (signed_from p) (signed_from q) ≡ pos (plain_need p q)
  unfolding need_ℤ
  need_signed =
      rw (pos_less p.accrued p.sent, less_sub q.need p.accrued p.sent, larger_pos p.need (q.need + p.sent) p.accrued, smaller_pos (max p.need (q.need + p.sent - p.accrued)) (p.limits.hi + 1), below_not (sub_ℕ p.limits.hi p.depth) (pos q.need), pos_sub q.need, sub_order q.need 0 p.limits.hi p.depth)
      (⊎_elim
      (λ h. rw (lt-leb (q.need + p.depth) (p.limits.hi + 0) (omega arith)) (ap pos (sym h.1)))
      (λ h. rw (le-leb (q.need + p.depth) (p.limits.hi + 0) (omega arith)) (ap pos (sym h.1)))
      (need_is p q))

  pub joined_signed : joined (signed_from p) (signed_from q) ≡ signed_from (plain_joined p q)
  unfolding joined
  joined_signed = signed_eq (joined (signed_from p) (signed_from q)) (signed_from (plain_joined p q)) refl refl refl refl ceiling_signed (ap nat_abs need_signed)

-- ---- the end credit

module _ (p : Plain) (c : ℕ) (sound : Sound p) (most : c ≤ p.limits.hi) (enough : p.need ≤ c) where
  pub end_signed : end_ℤ (signed_from p) c ≡ pos (plain_end_of p c)
  end_signed =
      let e = ends p c sound most enough in
      rw (pos_less p.accrued p.sent, pos_add c p.accrued p.sent)
      (smaller_is (c + p.accrued) p.sent p.limits.hi p.depth (plain_end_of p c) 0
      (λ h. ⊎_elim (λ k. omega (arith, e.gained, e.capped)) (λ k. omega (arith, e.gained, e.capped)) e.exact)
      (λ h. ⊎_elim (λ k. omega (arith, e.gained, e.capped)) (λ k. omega (arith, e.gained, e.capped)) e.exact)
      ∙ sym (pos_sub (plain_end_of p c)))

-- ---- the range

same_bool : (x y : Bool) → (x ≡ true → y ≡ true) → (y ≡ true → x ≡ true) → x ≡ y
same_bool true y f g = sym (f refl)
same_bool false true f g = g refl
same_bool false false f g = refl

-- an order of differences is one of sums, as facts
sums : (m n p q : ℕ) → sub_ℕ m n ≤ℤ sub_ℕ p q → m + q ≤ p + n
sums m n p q h = leb-true (m + q) (p + n) (sym (sub_order m n p q) ∙ ordered_test (sub_ℕ m n) (sub_ℕ p q) h)

of_sums : (m n p q : ℕ) → m + q ≤ p + n → sub_ℕ m n ≤ℤ sub_ℕ p q
of_sums m n p q h = ordered (sub_ℕ m n) (sub_ℕ p q) (sub_le m n p q h)

module _ (p : Plain) where
  hi_gain : pos p.limits.hi +ℤ gain (signed_from p) ≡ sub_ℕ (p.limits.hi + p.accrued) p.sent
  hi_gain = ap (λ z. pos p.limits.hi +ℤ z) (pos_less p.accrued p.sent) ∙ pos_add p.limits.hi p.accrued p.sent

  need_gain : pos p.need +ℤ gain (signed_from p) ≡ sub_ℕ (p.need + p.accrued) p.sent
  need_gain = ap (λ z. pos p.need +ℤ z) (pos_less p.accrued p.sent) ∙ pos_add p.need p.accrued p.sent

  range_plain : in_range (signed_from p) ≡ true → Holds (plain_range p)
  range_plain h =
      let r = (in_range_exactly (signed_from p)).0 h in
      let gained = sums p.limits.hi p.depth (p.limits.hi + p.accrued) p.sent (rw hi_gain at r.ceiling_gained) in
      let lowest = sums 0 (most_size * p.events) p.limits.hi p.depth (rw neg_is at r.ceiling_least) in
      (facts_limits p.limits r.settings_valid, (r.events_most, (omega arith, by_cases (le_or p.need p.limits.hi) (λ k. inr (usable r k)) inl)))
    where
      usable : InRange (signed_from p) → p.need ≤ p.limits.hi → (p.depth ≤ p.limits.hi) × (p.sent ≤ p.need + p.accrued)
      usable r k =
          let x = sums 0 0 p.limits.hi p.depth (r.ceiling_usable k) in
          let y = sums 0 0 (p.need + p.accrued) p.sent (rw need_gain at (r.need_usable k)) in
          omega arith

  plain_range_lem : Holds (plain_range p) → in_range (signed_from p) ≡ true
  plain_range_lem h =
      (in_range_exactly (signed_from p)).1
      (record {
        settings_valid = limits_facts p.limits h.0;
        events_most = h.1.0;
        accrued_most = omega arith;
        sent_most = omega arith;
        ceiling_most = rw (pos_sub p.limits.hi) (of_sums p.limits.hi p.depth p.limits.hi 0 (omega arith));
        ceiling_gained = rw hi_gain (of_sums p.limits.hi p.depth (p.limits.hi + p.accrued) p.sent (omega arith));
        ceiling_least = rw neg_is (of_sums 0 (most_size * p.events) p.limits.hi p.depth (omega arith));
        need_most = omega arith;
        ceiling_usable = λ k. let u = usable k in of_sums 0 0 p.limits.hi p.depth (omega arith);
        need_usable = λ k. let u = usable k in rw need_gain (of_sums 0 0 (p.need + p.accrued) p.sent (omega arith));
      })
    where
      usable : p.need ≤ p.limits.hi → (p.depth ≤ p.limits.hi) × (p.sent ≤ p.need + p.accrued)
      usable k = ⊎_elim (λ u. absurd (omega arith)) (λ u. u) h.1.1.1

  pub range_signed : in_range (signed_from p) ≡ test (plain_range p)
  range_signed =
      same_bool (in_range (signed_from p)) (test (plain_range p)) (λ h. passes (plain_range p) (range_plain h)) (λ h. plain_range_lem (facts (plain_range p) h))

-- ---- from a summary to its natural numbers and back

-- a summary in range has its ceiling at most at hiLimit
pub not_above : (s : Summary) → in_range s ≡ true → le_z s.ceiling (pos s.limits.hi) ≡ true
not_above s h = ordered_test s.ceiling (pos s.limits.hi) ((in_range_exactly s).0 h).ceiling_most

pub signed_plain : (s : Summary) → le_z s.ceiling (pos s.limits.hi) ≡ true → signed_from (plain_from s) ≡ s
signed_plain s h = signed_eq (signed_from (plain_from s)) s refl refl refl refl (ceiling_depth s.limits.hi s.ceiling h) refl

pub plain_signed : (p : Plain) → plain_from (signed_from p) ≡ p
plain_signed p = plain_eq (plain_from (signed_from p)) p refl refl refl refl (depth_ceiling p.limits.hi p.depth) refl

module _ (s : Summary) (h : in_range s ≡ true) where
  pub same_signed : signed_from (plain_from s) ≡ s
  same_signed = signed_plain s (not_above s h)

  -- in range by the paper is in range by natural numbers
  pub in_range_plain : Holds (plain_range (plain_from s))
  in_range_plain = facts (plain_range (plain_from s)) (sym (range_signed (plain_from s)) ∙ ap in_range same_signed ∙ h)

pub in_range_signed : (p : Plain) → Holds (plain_range p) → in_range (signed_from p) ≡ true
in_range_signed p h = range_signed p ∙ passes (plain_range p) h

-- a ceiling above hiLimit is out of range
pub above_out : (s : Summary) → lt_z (pos s.limits.hi) s.ceiling ≡ true → in_range s ≡ false
above_out s a = by_cases (true_or_false (in_range s)) (λ h. absurd (true≢false (sym (not_above s h) ∙ not-true (le_z s.ceiling (pos s.limits.hi)) (sym (below_not (pos s.limits.hi) s.ceiling) ∙ a)))) (λ h. h)

-- one that is not has the range of its natural numbers
pub below_range : (s : Summary) → lt_z (pos s.limits.hi) s.ceiling ≡ false → test (plain_range (plain_from s)) ≡ in_range s
below_range s b =
    sym (range_signed (plain_from s))
    ∙ ap in_range (signed_plain s (not-false (le_z s.ceiling (pos s.limits.hi)) (sym (below_not (pos s.limits.hi) s.ceiling) ∙ b)))

-- ---- a join by way of the natural numbers

pub joined_fits : (p q : Plain) → Small p → Small q → ((plain_joined p q).events ≤ 4294967295) × ((plain_joined p q).depth ≤ 9223372036854775807)
unfolding plain_depth
joined_fits p q s t = (omega arith, omega arith)

module _ (a b : Summary) (ha : in_range a ≡ true) (hb : in_range b ≡ true) (same : test (same_limits a.limits b.limits) ≡ true) where
  pub joined_plain : joined a b ≡ signed_from (plain_joined (plain_from a) (plain_from b))
  joined_plain =
      ap (λ s. joined s b) (sym (same_signed a ha))
      ∙ ap (λ s. joined (signed_from (plain_from a)) s) (sym (same_signed b hb))
      ∙ joined_signed (plain_from a) (plain_from b) (facts (same_limits a.limits b.limits) same)

pub settled_plain : (s : Summary) (c : ℕ) → in_range s ≡ true → c ≤ s.limits.hi → s.need ≤ c → nat_abs (end_ℤ s c) ≡ plain_end_of (plain_from s) c
settled_plain s c h most enough =
    ap (λ x. nat_abs (end_ℤ x c)) (sym (same_signed s h))
    ∙ ap nat_abs (end_signed (plain_from s) c (in_range_sound (plain_from s) (in_range_plain s h)) most enough)
