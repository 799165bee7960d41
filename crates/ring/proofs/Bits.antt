-- What a bit of the word of links says.
-- Assumes nothing.
use Prim.Native.Nat.{ℕ, zero, suc, ◌+◌, ◌/◌, ◌%◌, ◌^◌, ◌≤◌, ◌<◌}
use mathlib.Core.Bool.{true, false, true≢false}
use mathlib.Core.Logic.{◌↔◌}
use mathlib.Core.Path.{◌≡◌, sym, ap, ◌∙◌, subst}
use native.Mathlib.Nat.{lt_of_lt_of_le, div-one, div-lt_iff_lt-mul, one-mul}
use native.Mathlib.Omega.{arith}
use lib.Pow.{pow_pos, pow_mono}
use borrow.Author.Tests.{eqb-true, eq-eqb}
use Rattle.ring.specs.declared.Way.{Way}
use Rattle.ring.specs.Links.{usable, link_of, ahead_of}
use Rattle.ring.proofs.Digits.{digit_shr, digit_none}

-- One 64-bit word holds a bit per link, set if usable: link k is usable exactly where bit k is 1,
pub usable_exactly : (links k : ℕ) → (usable links k ≡ true) ↔ (links / 2 ^ k % 2 ≡ 1)
unfolding usable
usable_exactly links k = (eqb-true (links / 2 ^ k % 2) 1, eq-eqb (links / 2 ^ k % 2) 1)

-- and the link ahead of a station where its bit is.
pub ahead_exactly : (way : Way) (stations links at : ℕ) → (ahead_of way stations links at ≡ true) ↔ (links / 2 ^ link_of way stations at % 2 ≡ 1)
ahead_exactly way stations links at = usable_exactly links (link_of way stations at)

-- a word without a bit is 0
no_bit : (n word : ℕ) → word ≤ n → ((k : ℕ) → usable word k ≡ false) → word ≡ 0
no_bit zero word l f = omega arith
no_bit (suc n) word l f =
    let half : word / 2 ≡ 0 = no_bit n (word / 2) (omega arith) (λ k. digit_shr word 1 k ∙ f (1 + k)) in
    let even : word % 2 ≡ 1 → ⊥ = λ e. true≢false (sym ((usable_exactly word 0).1 (ap (λ (x : ℕ). x % 2) (div-one word) ∙ e)) ∙ f 0) in
    omega arith

-- a word of which nothing is left without its m low bits has no more
pub low_only : (word m : ℕ) → word / 2 ^ m ≡ 0 → word < 2 ^ m
low_only word m e =
    subst (λ (x : ℕ). word < x) (one-mul (2 ^ m)) ((div-lt_iff_lt-mul (pow_pos m)).0 (let l : word / 2 ^ m < 1 = omega arith in l))

-- A word has m bits exactly where each bit from the m-th on is 0.
pub below_exactly : (word m : ℕ) → (word < 2 ^ m) ↔ ((k : ℕ) → m ≤ k → usable word k ≡ false)
below_exactly word m = (
  λ l k h. digit_none word k (lt_of_lt_of_le l (pow_mono {i = m} {j = k} h)),
  λ f. low_only word m (no_bit (word / 2 ^ m) (word / 2 ^ m) (omega arith) (λ k. digit_shr word m k ∙ f (m + k) (omega arith))),
)
