-- What a step and a growing part pick, case by case: one law for each branch of their choices, and their bounds.
-- Assumes nothing.
use Prim.Native.Nat.{ℕ, ◌+◌, ◌≤◌, ◌<◌, min, max}
use mathlib.Core.Bool.{Bool, true, false, ◌&&◌, cond}
use mathlib.Core.Path.{◌≡◌, refl}
use native.Mathlib.Omega.{arith}
use borrow.Author.Tests.{eq-eqb, ne_eqb, le-leb, lt-leb, lt-ltb, le-ltb}
use lib.Dec.{leb, ltb}
use mir.Val.{bool_byte}
use Rattle.decide.specs.Test.{split, ◌≡?◌}
use Rattle.decide.proofs.Cases.{by_cases, le_or}
use Rattle.tally.specs.Tally.{pick_of, fall_of, bar_of}

module _ (k x y : ℕ) where
  pub pick_send : k ≡ 3 → pick_of k x y ≡ x
  unfolding pick_of
  pick_send h = simp (eq-eqb k 3 h)

  pub pick_tick : (k ≡ 3 → ⊥) → pick_of k x y ≡ y
  unfolding pick_of
  pick_tick h = simp (ne_eqb k 3 h)

  pub pick_max : pick_of k x y ≤ max x y
  pick_max = by_cases (split (k ≡? 3)) (λ h. omega (arith, pick_send h)) (λ h. omega (arith, pick_tick h))

module _ (k rise : ℕ) where
  pub fall_idle : k ≡ 2 → fall_of k rise ≡ rise
  unfolding fall_of
  fall_idle h = simp (eq-eqb k 2 h)

  pub fall_other : (k ≡ 2 → ⊥) → fall_of k rise ≡ 0
  unfolding fall_of
  fall_other h = simp (ne_eqb k 2 h)

  pub fall_max : fall_of k rise ≤ rise
  fall_max = by_cases (split (k ≡? 2)) (λ h. omega (arith, fall_idle h)) (λ h. omega (arith, fall_other h))

module _ (rise depth level : ℕ) where
  pub bar_never : rise ≤ depth → bar_of rise depth level ≡ 0
  unfolding bar_of
  bar_never h = simp (le-leb rise depth h)

  pub bar_level : depth < rise → bar_of rise depth level ≡ level
  unfolding bar_of
  bar_level h = simp (lt-leb rise depth h)

-- a low that comes too late is counted, at most once
pub count_max : (b : Bool) → bool_byte b ≤ 1
count_max true = omega arith
count_max false = omega arith

-- where lows that come too late are counted the least of all is kept beside: it counts where none was
pub low_counted : (x peak late low : ℕ) → min (bar_of x peak x) (bar_of 1 late low) ≡ bar_of 1 (late + bool_byte (leb x peak)) (min x low)
low_counted x peak late low =
    by_cases (le_or x peak)
    (λ h. rw (bar_never x peak x h, le-leb x peak h, bar_never 1 (late + 1) (min x low) (omega arith)) (omega arith))
    (λ h. rw (bar_level x peak x h, lt-leb x peak h)
    (by_cases (le_or 1 late)
    (λ k. rw (bar_never 1 late low k, bar_never 1 (late + 0) (min x low) (omega arith)) (omega arith))
    (λ k. rw (bar_level 1 late low k, bar_level 1 (late + 0) (min x low) (omega arith)) refl)))

-- ---- what a part chooses

pub choice_max : (b : Bool) (x y : ℕ) → cond b x y ≤ max x y
choice_max true x y = omega arith
choice_max false x y = omega arith

pub choice_min : (b : Bool) (x y : ℕ) → min x y ≤ cond b x y
choice_min true x y = omega arith
choice_min false x y = omega arith

-- the larger of two numbers, by one comparison
pub larger_by : (x y : ℕ) → cond (ltb x y) y x ≡ max x y
larger_by x y = by_cases (le_or y x) (λ h. simp (le-ltb x y h) (omega arith)) (λ h. simp (lt-ltb x y h) (omega arith))

-- the low after an event, by two comparisons: of a send that comes too late 0, else the level, where that is less than the low before
pub low_by : (send : Bool) (level top low : ℕ) →
    cond (send && ltb (cond (ltb top level) level 0) low) (cond (ltb top level) level 0) low ≡ cond send (min (bar_of level top level) low) low
low_by false level top low = refl
low_by true level top low =
    by_cases (le_or level top)
    (λ h. simp (bar_never level top level h, le-ltb top level h) (smaller_by 0 low))
    (λ h. simp (bar_level level top level h, lt-ltb top level h) (smaller_by level low))
  where
    smaller_by : (x y : ℕ) → cond (ltb x y) x y ≡ min x y
    smaller_by x y = by_cases (le_or y x) (λ h. simp (le-ltb x y h) (omega arith)) (λ h. simp (lt-ltb x y h) (omega arith))
