-- The laws of `plain_joined`. Each of `plain_depth`, `plain_need` and `plain_end_of` is known by the law that stands first of it, and is opened nowhere else.
-- Assumes nothing.
use Prim.Native.Nat.{ℕ, ◌+◌, ◌-◌, ◌≤◌, ◌<◌, min, max}
use mathlib.Core.Logic.{◌⊎◌, inl, inr}
use mathlib.Core.Path.{◌≡◌, refl}
use native.Mathlib.Nat.{le_antisymm, le_refl}
use native.Mathlib.Omega.{arith}
use borrow.Author.Tests.{lt-ltb, le-ltb}
use Rattle.decide.specs.Test.{Holds}
use Rattle.decide.proofs.Cases.{by_cases, le_or, min_is, max_is}
use Rattle.shaper.specs.Limits.{most_events}
use Rattle.plain.specs.declared.Plain.{Plain}
use Rattle.plain.specs.Plain.{plain_empty, plain_need, plain_depth, plain_joined, plain_end_of}
use Rattle.plain.specs.Range.{plain_usable, plain_range, Sound, Same, Small}

-- ---- range

-- each field of a summary in range is small
pub in_range_small : (s : Plain) → Holds (plain_range s) → Small s
in_range_small s h = omega arith

-- in range is sound, with at most a million events
pub in_range_sound : (s : Plain) → Holds (plain_range s) → Sound s
in_range_sound s h = (h.0, h.1.1)

pub sound_in_range : (s : Plain) → Sound s → s.events ≤ most_events → Holds (plain_range s)
sound_in_range s h n = (h.0, (n, h.1))

-- ---- depth: the ceiling of a join is the smaller of ceiling1 + gain2 and ceiling2

pub depth_least : (a b : Plain) → (a.depth + b.sent ≤ plain_depth a b + b.accrued) × (b.depth ≤ plain_depth a b)
unfolding plain_depth
depth_least a b = omega arith

pub depth_is : (a b : Plain) → (plain_depth a b + b.accrued ≡ a.depth + b.sent) ⊎ (plain_depth a b ≡ b.depth)
unfolding plain_depth
depth_is a b = by_cases (max_is (a.depth + b.sent - b.accrued) b.depth) (λ h. inr h.1) (λ h. inl (omega arith))

-- ---- need: the least credit from which both parts are permitted

-- credit x suffices for the first part, x + gain1 for the second, and ceiling1 for the second
pub record Meets (a b : Plain) (x : ℕ) : Type 0 where
  pub first : a.need ≤ x
  pub second : b.need + a.sent ≤ x + a.accrued
  pub below : b.need + a.depth ≤ a.limits.hi

-- "never" if ceiling1 < need2
pub need_never : (a b : Plain) → a.limits.hi < b.need + a.depth → plain_need a b ≡ a.limits.hi + 1
unfolding plain_need
need_never a b h = simp (lt-ltb _ _ h)

-- else max(need1, need2 − gain1), at most hiLimit+1
pub need_else : (a b : Plain) → b.need + a.depth ≤ a.limits.hi → plain_need a b ≡ min (max a.need (b.need + a.sent - a.accrued)) (a.limits.hi + 1)
unfolding plain_need
need_else a b h = simp (le-ltb _ _ h)

pub need_is : (a b : Plain) → ((a.limits.hi < b.need + a.depth) × (plain_need a b ≡ a.limits.hi + 1)) ⊎ ((b.need + a.depth ≤ a.limits.hi) × (plain_need a b ≡ min (max a.need (b.need + a.sent - a.accrued)) (a.limits.hi + 1)))
need_is a b =
    by_cases (le_or (b.need + a.depth) a.limits.hi) (λ h. inr (h, need_else a b h)) (λ h. inl (h, need_never a b h))

pub need_max : (a b : Plain) → plain_need a b ≤ a.limits.hi + 1
need_max a b = by_cases (need_is a b) (λ h. omega arith) (λ h. omega arith)

pub need_meets : (a b : Plain) (x : ℕ) → x ≤ a.limits.hi → plain_need a b ≤ x → Meets a b x
need_meets a b x hx hn = by_cases (need_is a b) (λ h. omega arith) (λ h. omega arith)

pub meets_need : (a b : Plain) (x : ℕ) → x ≤ a.limits.hi → Meets a b x → plain_need a b ≤ x
meets_need a b x hx m = by_cases (need_is a b) (λ h. omega arith) (λ h. omega arith)

-- two needs are equal if the same credits meet them
pub same_need : (hi m n : ℕ) → m ≤ hi + 1 → n ≤ hi + 1 → ((x : ℕ) → x ≤ hi → m ≤ x → n ≤ x) → ((x : ℕ) → x ≤ hi → n ≤ x → m ≤ x) → m ≡ n
same_need hi m n bm bn f g =
    by_cases (le_or m hi)
    (λ h. by_cases (le_or n hi)
    (λ k. le_antisymm (g n k (le_refl n)) (f m h (le_refl m)))
    (λ k. let z = f m h (le_refl m) in omega arith))
    (λ h. by_cases (le_or n hi) (λ k. let z = g n k (le_refl n) in omega arith) (λ k. omega arith))

-- ---- a join is in range, but for the number of events

module _ (a b : Plain) (ha : Sound a) (hb : Sound b) (s : Same a b) where
  joined_met : plain_need a b ≤ a.limits.hi → Meets a b (plain_need a b) → (plain_depth a b ≤ a.limits.hi) × (a.sent + b.sent ≤ plain_need a b + (a.accrued + b.accrued))
  joined_met h m =
      by_cases ha.1.1
      (λ u. omega arith)
      (λ u. by_cases hb.1.1 (λ v. omega arith) (λ v. by_cases (depth_is a b) (λ e. omega arith) (λ e. omega arith)))

  joined_usable : Holds (plain_usable (plain_joined a b))
  joined_usable =
      by_cases (le_or (plain_need a b) a.limits.hi)
      (λ h. inr (joined_met h (need_meets a b (plain_need a b) h (le_refl _))))
      (λ h. inl h)

  pub joined_sound : Sound (plain_joined a b)
  joined_sound =
      let d = depth_least a b in
      let n = need_max a b in
      (ha.0, (by_cases (depth_is a b) (λ e. omega arith) (λ e. omega arith), joined_usable))

-- ---- equal field by field

pub plain_eq : (a b : Plain) → a.limits ≡ b.limits → a.events ≡ b.events → a.accrued ≡ b.accrued → a.sent ≡ b.sent → a.depth ≡ b.depth → a.need ≡ b.need → a ≡ b
plain_eq a b l e c s d n = λ i. record { limits = l i; events = e i; accrued = c i; sent = s i; depth = d i; need = n i }

-- ---- the empty summary is neutral

pub empty_left : (a : Plain) → Sound a → plain_joined (plain_empty a.limits) a ≡ a
empty_left a h =
    let z = plain_empty a.limits in
    plain_eq _ _ refl (omega arith) (omega arith) (omega arith)
    (let d = depth_least z a in by_cases (depth_is z a) (λ e. omega arith) (λ e. e))
    (same_need a.limits.hi _ _ (need_max z a) (omega arith)
    (λ x hx m. let k = need_meets z a x hx m in omega arith)
    (λ x hx m. meets_need z a x hx (omega arith)))

pub empty_right : (a : Plain) → Sound a → plain_joined a (plain_empty a.limits) ≡ a
empty_right a h =
    let z = plain_empty a.limits in
    plain_eq _ _ refl (omega arith) (omega arith) (omega arith)
    (let d = depth_least a z in by_cases (depth_is a z) (λ e. omega arith) (λ e. omega arith))
    (same_need a.limits.hi _ _ (need_max a z) (omega arith)
    (λ x hx m. let k = need_meets a z x hx m in omega arith)
    (λ x hx m. meets_need a z x hx (by_cases h.1.1 (λ u. omega arith) (λ u. omega arith))))

-- ---- the end: y is min (x + gain, ceiling), where neither is negative

pub record Ends (s : Plain) (x y : ℕ) : Type 0 where
  pub gained : y + s.sent ≤ x + s.accrued
  pub capped : y + s.depth ≤ s.limits.hi
  pub exact : (y + s.sent ≡ x + s.accrued) ⊎ (y + s.depth ≡ s.limits.hi)

pub ends : (s : Plain) (x : ℕ) → Sound s → x ≤ s.limits.hi → s.need ≤ x → Ends s x (plain_end_of s x)
unfolding plain_end_of
ends s x h hx n =
    by_cases h.1.1
    (λ u. absurd (omega arith))
    (λ u. by_cases (min_is (x + s.accrued - s.sent) (s.limits.hi - s.depth))
    (λ m. record { gained = omega arith; capped = omega arith; exact = inl (omega arith) })
    (λ m. record { gained = omega arith; capped = omega arith; exact = inr (omega arith) }))

-- ---- a join is permitted, and ends, as its two parts one after the other

module _ (a b : Plain) (ha : Sound a) (hb : Sound b) (s : Same a b) (x : ℕ) (hx : x ≤ a.limits.hi) where
  pub first_then : plain_need a b ≤ x → (a.need ≤ x) × (b.need ≤ plain_end_of a x)
  first_then n =
      let m = need_meets a b x hx n in
      let y = ends a x ha hx m.first in
      (m.first, by_cases y.exact (λ e. omega arith) (λ e. omega arith))

  pub then_first : a.need ≤ x → b.need ≤ plain_end_of a x → plain_need a b ≤ x
  then_first n k = let y = ends a x ha hx n in meets_need a b x hx (omega arith)

  pub end_joined : plain_need a b ≤ x → plain_end_of (plain_joined a b) x ≡ plain_end_of b (plain_end_of a x)
  end_joined n =
      let m = first_then n in
      let y = ends a x ha hx m.0 in
      let z = ends b (plain_end_of a x) hb (omega arith) m.1 in
      let w = ends (plain_joined a b) x (joined_sound a b ha hb s) hx n in
      let d = depth_least a b in
      le_antisymm
      (by_cases z.exact (λ e. by_cases y.exact (λ f. omega arith) (λ f. omega arith)) (λ e. omega arith))
      (by_cases w.exact (λ e. omega arith) (λ e. by_cases (depth_is a b) (λ f. omega arith) (λ f. omega arith)))

-- ---- join is associative

module _ (a b c : Plain) (ha : Sound a) (hb : Sound b) (hc : Sound c) (s : Same a b) (t : Same b c) where
  depth_assoc : plain_depth (plain_joined a b) c ≡ plain_depth a (plain_joined b c)
  depth_assoc =
      let p = depth_least a b in
      let q = depth_least b c in
      let u = depth_least (plain_joined a b) c in
      let v = depth_least a (plain_joined b c) in
      le_antisymm
      (by_cases (depth_is (plain_joined a b) c) (λ e. by_cases (depth_is a b) (λ f. omega arith) (λ f. omega arith)) (λ e. omega arith))
      (by_cases (depth_is a (plain_joined b c)) (λ e. omega arith) (λ e. by_cases (depth_is b c) (λ f. omega arith) (λ f. omega arith)))

  need_right : (x : ℕ) → x ≤ a.limits.hi → plain_need (plain_joined a b) c ≤ x → plain_need a (plain_joined b c) ≤ x
  need_right x hx n =
      let m = need_meets (plain_joined a b) c x hx n in
      let k = need_meets a b x hx m.first in
      let y = ends a x ha hx k.first in
      let d = depth_least a b in
      let bc : plain_need b c ≤ plain_end_of a x =
      meets_need b c (plain_end_of a x) (omega arith)
      (by_cases y.exact (λ e. omega arith) (λ e. omega arith)) in
      meets_need a (plain_joined b c) x hx (omega arith)

  need_left : (x : ℕ) → x ≤ a.limits.hi → plain_need a (plain_joined b c) ≤ x → plain_need (plain_joined a b) c ≤ x
  need_left x hx n =
      let m = need_meets a (plain_joined b c) x hx n in
      let k = need_meets b c (plain_need b c) (omega arith) (le_refl _) in
      let j = meets_need a b x hx (omega arith) in
      meets_need (plain_joined a b) c x hx (by_cases (depth_is a b) (λ e. omega arith) (λ e. omega arith))

  pub joined_assoc : plain_joined (plain_joined a b) c ≡ plain_joined a (plain_joined b c)
  joined_assoc =
      plain_eq _ _ refl (omega arith) (omega arith) (omega arith) depth_assoc
      (same_need a.limits.hi _ _ (need_max (plain_joined a b) c) (need_max a (plain_joined b c)) need_right need_left)
