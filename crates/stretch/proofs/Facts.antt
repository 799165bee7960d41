-- When a node lies whole in a stretch, and when apart from it, as facts.
-- Assumes nothing.
use Prim.Native.Nat.{ℕ, ◌≤◌, ◌<◌}
use mathlib.Core.Bool.{Bool, true, false, ◌&&◌, ◌||◌}
use mathlib.Core.Logic.{◌⊎◌, inl, inr, ⊎_elim}
use mathlib.Core.Path.{◌≡◌, refl}
use borrow.Author.Tests.{leb-true, le-leb, lt-leb}
use lib.Dec.{leb}
use Rattle.decide.specs.Test.{both, either, and_i, or_r}
use Rattle.decide.proofs.Cases.{by_cases, le_or}
use Rattle.index.specs.Tree.{from_of, to_of}
use Rattle.stretch.specs.Found.{whole, apart}

module _ (n first last k x : ℕ) where
  pub whole_yes : first ≤ from_of x → to_of n k x ≤ last → whole n first last k x ≡ true
  unfolding whole
  whole_yes a b = and_i _ _ (le-leb first (from_of x) a) (le-leb (to_of n k x) last b)

  -- not where the stretch begins behind its first event,
  pub whole_late : from_of x < first → whole n first last k x ≡ false
  unfolding whole
  whole_late a = rw (lt-leb first (from_of x) a)

  -- nor where it ends before its last
  pub whole_short : last < to_of n k x → whole n first last k x ≡ false
  unfolding whole
  whole_short a = rw (lt-leb (to_of n k x) last a) (and_false (leb first (from_of x)))
    where
      and_false : (b : Bool) → (b && false) ≡ false
      and_false true = refl
      and_false false = refl

  pub whole_facts : whole n first last k x ≡ true → (first ≤ from_of x) × (to_of n k x ≤ last)
  unfolding whole
  whole_facts e =
      let b = both (leb first (from_of x)) (leb (to_of n k x) last) e in
      (leb-true first (from_of x) b.0, leb-true (to_of n k x) last b.1)

  pub not_whole_lem : whole n first last k x ≡ false → (from_of x < first) ⊎ (last < to_of n k x)
  not_whole_lem e =
      by_cases (le_or first (from_of x))
      (λ a. by_cases (le_or (to_of n k x) last) (λ b. absurd (mathlib.Core.Bool.true≢false (sym_true a b))) (λ b. inr b))
      (λ a. inl a)
    where
      sym_true : first ≤ from_of x → to_of n k x ≤ last → true ≡ false
      sym_true a b = rw (whole_yes a b) at e

  pub apart_before : last ≤ from_of x → apart n first last k x ≡ true
  unfolding apart
  apart_before a = rw (le-leb last (from_of x) a)

  pub apart_behind : to_of n k x ≤ first → apart n first last k x ≡ true
  unfolding apart
  apart_behind a = or_r (leb last (from_of x)) (leb (to_of n k x) first) (le-leb (to_of n k x) first a)

  -- some of its events lie in the stretch
  pub apart_not : from_of x < last → first < to_of n k x → apart n first last k x ≡ false
  unfolding apart
  apart_not a b = rw (lt-leb last (from_of x) a, lt-leb (to_of n k x) first b)

  pub apart_facts : apart n first last k x ≡ true → (last ≤ from_of x) ⊎ (to_of n k x ≤ first)
  unfolding apart
  apart_facts e =
      ⊎_elim (λ a. inl (leb-true last (from_of x) a)) (λ b. inr (leb-true (to_of n k x) first b)) (either (leb last (from_of x)) (leb (to_of n k x) first) e)

  pub not_apart : apart n first last k x ≡ false → (from_of x < last) × (first < to_of n k x)
  not_apart e =
      by_cases (le_or last (from_of x)) (λ a. absurd (no (apart_before a)))
      (λ a. by_cases (le_or (to_of n k x) first) (λ b. absurd (no (apart_behind b))) (λ b. (a, b)))
    where
      no : apart n first last k x ≡ true → ⊥
      no t = mathlib.Core.Bool.true≢false (rw t at e)
