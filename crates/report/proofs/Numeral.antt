-- Laws of numbers in decimal: the digits are digits, their value is the number, none leads with a zero, and how many there are.
-- Assumes nothing.
use mathlib.Core.Path.{◌≡◌, refl, sym, ap, ◌∙◌}
use mathlib.Core.Bool.{cond}
use mathlib.Core.List.{List, [], ◌∷◌, ◌++◌}
use Prim.Native.Nat.{ℕ, zero, suc, ◌+◌, ◌*◌, ◌-◌, ◌/◌, ◌%◌, ◌^◌, ◌≤◌, ◌<◌}
use native.Mathlib.Omega.{arith}
use native.Mathlib.Nat.{pow-suc}
use borrow.Author.Tests.{lt-ltb, le-ltb}
use lib.Dec.{ltb}
use lib.IntN.{ℤ, pos, negsuc}
use lib.Signed.{mag}
use lib.ListN.{length, get_or, length-append, get_or-append}
use Rattle.decide.proofs.Cases.{by_cases, le_or}
use Rattle.wire.specs.Signed.{unsigned_of}
use Rattle.report.specs.Text.{ascii, digit, spelt, numeral, signed_numeral, Digits, value_from}

-- ---- the definition, without the number that bounds it

spelt_bound : (k j n : ℕ) → n ≤ k → n ≤ j → spelt k n ≡ spelt j n
unfolding spelt
spelt_bound zero zero n h g = refl
spelt_bound zero (suc j) n h g = rw (lt-ltb n 10 (omega arith))
spelt_bound (suc k) zero n h g = rw (lt-ltb n 10 (omega arith))
spelt_bound (suc k) (suc j) n h g =
    ap (λ (l : List ℕ). cond (ltb n 10) (digit n ∷ []) (l ++ (digit (n % 10) ∷ []))) (spelt_bound k j (n / 10) (omega arith) (omega arith))

pub numeral_one : (n : ℕ) → n < 10 → numeral n ≡ digit n ∷ []
unfolding numeral spelt
numeral_one zero h = refl
numeral_one (suc k) h = rw (lt-ltb (suc k) 10 h)

pub numeral_more : (n : ℕ) → 10 ≤ n → numeral n ≡ numeral (n / 10) ++ (digit (n % 10) ∷ [])
unfolding numeral spelt
numeral_more zero h = absurd (omega arith)
numeral_more (suc k) h =
    rw (le-ltb (suc k) 10 h) (ap (λ (l : List ℕ). l ++ (digit (suc k % 10) ∷ [])) (spelt_bound k (suc k / 10) (suc k / 10) (omega arith) (omega arith)))

-- what holds of one digit, and of a numeral and one digit more, holds of every numeral
module _ (P : List ℕ → ℕ → Type 0) (one : (n : ℕ) → n < 10 → P (digit n ∷ []) n)
    (more : (n : ℕ) (l : List ℕ) → 10 ≤ n → P l (n / 10) → P (l ++ (digit (n % 10) ∷ [])) n) where
  up_to : (k n : ℕ) → n ≤ k → P (numeral n) n
  up_to zero n h = rw (numeral_one n (omega arith)) (one n (omega arith))
  up_to (suc k) n h =
      by_cases (le_or 10 n)
      (λ large. rw (numeral_more n large) (more n (numeral (n / 10)) large (up_to k (n / 10) (omega arith))))
      (λ small. rw (numeral_one n small) (one n small))

  by_digits : (n : ℕ) → P (numeral n) n
  by_digits n = up_to n n (omega arith)

-- ---- what they say

digits_more : (xs : List ℕ) (d : ℕ) → d < 10 → Digits xs → Digits (xs ++ (digit d ∷ []))
digits_more [] d h s = (omega arith, omega arith, tt)
digits_more (x ∷ xs) d h s = (s.0, s.1, digits_more xs d h s.2)

-- every byte of a numeral is a digit
pub numeral_digits : (n : ℕ) → Digits (numeral n)
numeral_digits =
    by_digits (λ l n. Digits l) (λ n h. (omega arith, omega arith, tt))
    (λ n l h s. digits_more l (n % 10) (omega arith) s)

value_more : (xs : List ℕ) (v d : ℕ) → value_from v (xs ++ (digit d ∷ [])) ≡ 10 * value_from v xs + d
value_more [] v d = omega arith
value_more (x ∷ xs) v d = value_more xs (10 * v + (x - 48)) d

-- and what the digits say is the number
pub numeral_value : (n : ℕ) → value_from 0 (numeral n) ≡ n
numeral_value =
    by_digits (λ l n. value_from 0 l ≡ n) (λ n h. omega arith)
    (λ n l h e. value_more l 0 (n % 10) ∙ omega arith)

-- no digit of a number but 0 is a leading zero
pub numeral_leads : (n : ℕ) → 0 < n → 48 < get_or (numeral n) 0 0
numeral_leads n =
    (by_digits (λ l n. (0 < length l) × (0 < n → 48 < get_or l 0 0)) (λ n h. (omega arith, λ p. omega arith))
    (λ n l h s. (omega (arith, length-append l (digit (n % 10) ∷ [])), λ p. rw (get_or-append l (digit (n % 10) ∷ []) 0 0 s.0) (s.1 (omega arith))))
    n
    ).1

-- a number below 10 ^ k is at most k digits
numeral_short : (k n : ℕ) → n < 10 ^ suc k → length (numeral n) ≤ suc k
numeral_short k n =
    by_digits (λ l n. (k : ℕ) → n < 10 ^ suc k → length l ≤ suc k) (λ n h k p. omega arith)
    shorter n k
  where
    shorter : (n : ℕ) (l : List ℕ) → 10 ≤ n → ((k : ℕ) → n / 10 < 10 ^ suc k → length l ≤ suc k) → (k : ℕ) → n < 10 ^ suc k →
        length (l ++ (digit (n % 10) ∷ [])) ≤ suc k
    shorter n l h s zero p = absurd (omega arith)
    shorter n l h s (suc k) p =
        let e = length-append l (digit (n % 10) ∷ []) in
        let short = s k (omega (arith, pow-suc 10 (suc k))) in
        omega arith

-- as every number of 8 bytes is at most 20 digits
pub numeral_fits : (n : ℕ) → n < 18446744073709551616 → length (numeral n) ≤ 20
numeral_fits n h = numeral_short 19 n (omega arith)

-- ---- signed numbers, by the numbers that stand for them

pub signed_numeral_low : (z : ℤ) → mag z < 9223372036854775808 → (u : ℕ) → u ≡ unsigned_of z → u < 9223372036854775808 → signed_numeral z ≡ numeral u
unfolding signed_numeral unsigned_of
signed_numeral_low (pos n) f u e h = ap numeral (sym e)
signed_numeral_low (negsuc m) f u e h = absurd (omega arith)

pub signed_numeral_high : (z : ℤ) → mag z < 9223372036854775808 → (u : ℕ) → u ≡ unsigned_of z → 9223372036854775808 ≤ u →
    signed_numeral z ≡ ascii "-" ++ numeral (18446744073709551615 - u + 1)
unfolding signed_numeral unsigned_of
signed_numeral_high (pos n) f u e h = absurd (omega arith)
signed_numeral_high (negsuc m) f u e h =
    let same : suc m ≡ 18446744073709551615 - u + 1 = omega arith in
    ap (λ (n : ℕ). ascii "-" ++ numeral n) same
