-- Doubling comes to all the repeats, by at most two joins for each binary digit of their number.
-- Assumes nothing.
use Rattle.std.specs.Prelude.{Ok}
use Prim.Native.Nat.{ℕ, zero, suc, ◌+◌, ◌-◌, ◌*◌, ◌/◌, ◌%◌, ◌^◌, ◌≤◌, ◌<◌}
use mathlib.Core.Bool.{Bool, true, false}
use mathlib.Core.Path.{◌≡◌, refl, sym, ap, ◌∙◌}
use native.Mathlib.Nat.{le_antisymm, pow-suc}
use native.Mathlib.Numerals.{add-one}
use native.Mathlib.Omega.{arith}
use borrow.Author.Tests.{eqb-true, eqb-false}
use lib.Count.{count_leading_zeros, leading_of_zero, leading_length}
use lib.Dec.{eqb}
use lib.Pow.{pow_mono, shr-shr}
use Rattle.decide.specs.Test.{passes}
use Rattle.decide.proofs.Cases.{by_cases, le_or}
use Rattle.shaper.specs.Limits.{limits_ok}
use Rattle.summary.specs.declared.Summary.{Summary}
use Rattle.summary.specs.Range.{in_range}
use Rattle.summary.specs.Answer.{and_then, join_next}
use Rattle.summary.proofs.Paper.{in_range_plain}
use Rattle.summary.proofs.Rows.{empty_made}
use Rattle.heartbeat.specs.declared.Repeats.{Repeats}
use Rattle.heartbeat.specs.Repeat.{repeated_of}
use Rattle.heartbeat.specs.Doubling.{none_of, twice_of, doubling, digits_in, doubling_of}
use Rattle.heartbeat.proofs.Powers.{repeated_add, repeated_one, repeated_none}

-- ---- the joins

-- a turn makes two joins where the repeats are odd, and else one
twice_joins : (odd : Bool) (s : Summary) (d : Repeats) → (twice_of odd s d).joins ≤ d.joins + 2
twice_joins true s d = omega arith
twice_joins false s d = omega arith

pub doubling_joins : (k : ℕ) (s : Summary) (r : ℕ) → (doubling k s r).joins ≤ 2 * k
unfolding doubling
doubling_joins zero s r = omega arith
doubling_joins (suc k) s r = omega (arith, twice_joins (eqb (r % 2) 1) s (doubling k s (r / 2)), doubling_joins k s (r / 2))

-- a turn of the loop, which goes from the first digit to the last: behind digit d stand the repeats that all digits down to d make
pub doubling_next : (s : Summary) (r k d : ℕ) → d < k →
    twice_of (eqb (r / 2 ^ d % 2) 1) s (doubling (k - suc d) s (r / 2 ^ suc d)) ≡ doubling (k - d) s (r / 2 ^ d)
unfolding doubling
doubling_next s r k d h =
    let e : k - d ≡ suc (k - suc d) = omega arith in
    let f : r / 2 ^ d / 2 ≡ r / 2 ^ suc d = shr-shr r d 1 ∙ ap (λ (n : ℕ). r / 2 ^ n) (add-one d) in
    rw (e, f)

-- The binary digits of r are the least k with r < 2 ^ k: ⌈log2(r + 1)⌉.
module _ (r : ℕ) (fits : r < 2 ^ 64) where
  pub digits_enough : r < 2 ^ digits_in r
  unfolding digits_in
  digits_enough =
      let l = leading_length 64 r fits in
      let e : l.0 ≡ 64 - count_leading_zeros 64 r = omega (arith, l.1) in
      rw e at l.2

  pub digits_least : (k : ℕ) → r < 2 ^ k → digits_in r ≤ k
  unfolding digits_in
  digits_least k h =
      let l = leading_length 64 r fits in
      let e : l.0 ≡ 64 - count_leading_zeros 64 r = omega (arith, l.1) in
      by_cases (le_or (64 - count_leading_zeros 64 r) k) (λ a. a)
      (λ a. absurd (omega (arith, l.3, pow-suc 2 k, pow_mono {i = suc k} {j = l.0} (omega arith))))

  -- At most 2⌈log2(repeats + 1)⌉ joins: two for each digit, whatever bounds the digits.
  pub few_joins : (s : Summary) (k : ℕ) → r + 1 ≤ 2 ^ k → (doubling_of s r).joins ≤ 2 * k
  unfolding doubling_of
  few_joins s k h = omega (arith, doubling_joins (digits_in r) s r, digits_least k (omega arith))

-- ---- row by row

-- no repeat
pub doubling_none : (s : Summary) → doubling_of s 0 ≡ none_of s
unfolding doubling_of doubling digits_in
doubling_none s = rw (leading_of_zero 64)

-- half as many have a digit less
digits_half : (r : ℕ) → r < 2 ^ 64 → 0 < r → digits_in r ≡ suc (digits_in (r / 2))
digits_half r fits some = le_antisymm most (least (digits_in r) refl)
  where
    half : r / 2 < 2 ^ 64
    half = omega arith

    most : digits_in r ≤ suc (digits_in (r / 2))
    most = digits_least r fits (suc (digits_in (r / 2))) (omega (arith, pow-suc 2 (digits_in (r / 2)), digits_enough (r / 2) half))

    least : (k : ℕ) → digits_in r ≡ k → suc (digits_in (r / 2)) ≤ digits_in r
    least zero e = absurd (let n = rw e at (digits_enough r fits) in omega arith)
    least (suc k) e =
        let n = rw e at (digits_enough r fits) in
        let m = digits_least (r / 2) half k (omega (arith, pow-suc 2 k)) in
        omega arith

-- any other number: half as many, joined with themselves, and with one more where it is odd
pub doubling_halves : (s : Summary) (r : ℕ) → r < 2 ^ 64 → 0 < r → doubling_of s r ≡ twice_of (eqb (r % 2) 1) s (doubling_of s (r / 2))
unfolding doubling_of doubling
doubling_halves s r fits some = ap (λ (k : ℕ). doubling k s r) (digits_half r fits some)

-- ---- the repeats

module _ (s : Summary) (h : in_range s ≡ true) where
  -- the repeats so far joined with themselves are twice as many, and one more where they are odd
  twice_sum : (odd : Bool) (n q : ℕ) (d : Repeats) → d.sum ≡ repeated_of s q → eqb (n % 2) 1 ≡ odd → n / 2 ≡ q → (twice_of odd s d).sum ≡ repeated_of s n
  twice_sum true n q d e o f =
      let z = eqb-true (n % 2) 1 o in
      let all : q + q + 1 ≡ n = omega arith in
      rw e
      (ap (λ a. and_then a (λ t. join_next t (Ok s))) (repeated_add s h q q)
      ∙ ap (λ a. and_then (repeated_of s (q + q)) (λ t. join_next t a)) (sym (repeated_one s h))
      ∙ repeated_add s h (q + q) 1
      ∙ ap (repeated_of s) all)
  twice_sum false n q d e o f =
      let z = eqb-false (n % 2) 1 o in
      let all : q + q ≡ n = omega arith in
      rw e (repeated_add s h q q ∙ ap (repeated_of s) all)

  pub doubling_repeats : (k r : ℕ) → r < 2 ^ k → (doubling k s r).sum ≡ repeated_of s r
  unfolding doubling
  doubling_repeats zero r n =
      let z : r ≡ 0 = omega arith in
      rw z (empty_made s.limits (passes (limits_ok s.limits) (in_range_plain s h).0) ∙ sym (repeated_none s h))
  doubling_repeats (suc k) r n =
      twice_sum (eqb (r % 2) 1) r (r / 2) (doubling k s (r / 2)) (doubling_repeats k (r / 2) (omega (arith, pow-suc 2 k))) refl refl

  -- Doubling answers the repeats.
  pub doubles : (r : ℕ) → r < 2 ^ 64 → (doubling_of s r).sum ≡ repeated_of s r
  unfolding doubling_of
  doubles r fits = doubling_repeats (digits_in r) r (digits_enough r fits)
