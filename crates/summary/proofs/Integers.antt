-- Differences of natural numbers as integers: sums, orders, the smaller and the larger. `omega` reads no integer, so each goes by the signs, once, here.
-- Assumes nothing.
use Prim.Native.Nat.{ℕ, suc, ◌+◌, ◌-◌, ◌≤◌, ◌<◌, min, max}
use mathlib.Core.Bool.{true, false, not}
use mathlib.Core.Logic.{⊎_elim}
use mathlib.Core.Path.{◌≡◌, refl, sym, ap, ◌∙◌}
use native.Mathlib.Omega.{arith}
use borrow.Author.Tests.{lt-ltb, le-ltb, le-leb, lt-leb}
use lib.Dec.{leb, ltb}
use lib.IntN.{ℤ, pos, negsuc, sub_ℕ, ◌+ℤ◌, ◌-ℤ◌, neg_ℤ}
use lib.Signed.{le_z, lt_z}
use Rattle.decide.proofs.Cases.{by_cases, le_or, min_is, max_is}
use Rattle.plain.proofs.Ceiling.{sub_pos, sub_neg}
use Rattle.summary.specs.Summary.{smaller_ℤ, larger_ℤ}

-- a difference by any two numbers that have it
pub sub_eq : (m n p q : ℕ) → m + q ≡ p + n → sub_ℕ m n ≡ sub_ℕ p q
sub_eq m n p q e =
    ⊎_elim
    (λ h. sub_pos m n h ∙ ap pos (omega arith) ∙ sym (sub_pos p q (omega arith)))
    (λ h. sub_neg m n h ∙ ap negsuc (omega arith) ∙ sym (sub_neg p q (omega arith)))
    (le_or n m)

pub pos_sub : (n : ℕ) → pos n ≡ sub_ℕ n 0
pos_sub n = ap pos (omega arith) ∙ sym (sub_pos n 0 (omega arith))

pub sub_add : (a b c d : ℕ) → sub_ℕ a b +ℤ sub_ℕ c d ≡ sub_ℕ (a + c) (b + d)
sub_add a b c d =
    ⊎_elim
    (λ h. ⊎_elim
    (λ k. rw (sub_pos a b h, sub_pos c d k) (ap pos (omega arith) ∙ sym (sub_pos (a + c) (b + d) (omega arith))))
    (λ k. rw (sub_pos a b h, sub_neg c d k) (sub_eq (a - b) (suc (d - suc c)) (a + c) (b + d) (omega arith)))
    (le_or d c))
    (λ h. ⊎_elim
    (λ k. rw (sub_neg a b h, sub_pos c d k) (sub_eq (c - d) (suc (b - suc a)) (a + c) (b + d) (omega arith)))
    (λ k. rw (sub_neg a b h, sub_neg c d k) (ap negsuc (omega arith) ∙ sym (sub_neg (a + c) (b + d) (omega arith))))
    (le_or d c))
    (le_or b a)

neg_zero : (n m : ℕ) → n ≡ 0 → m ≡ 0 → neg_ℤ (pos n) ≡ pos m
neg_zero n m e f = rw (e, f)

neg_pos : (n k : ℕ) → n ≡ suc k → neg_ℤ (pos n) ≡ negsuc k
neg_pos n k e = rw e

pub neg_sub : (a b : ℕ) → neg_ℤ (sub_ℕ a b) ≡ sub_ℕ b a
neg_sub a b =
    ⊎_elim
    (λ h. ⊎_elim
    (λ k. rw (sub_pos a b h, sub_pos b a k) (neg_zero (a - b) (b - a) (omega arith) (omega arith)))
    (λ k. rw (sub_pos a b h, sub_neg b a k) (neg_pos (a - b) (a - suc b) (omega arith)))
    (le_or a b))
    (λ h. rw (sub_neg a b h, sub_pos b a (omega arith)) (ap pos (omega arith)))
    (le_or b a)

-- a number less a difference
pub less_sub : (k a s : ℕ) → pos k -ℤ sub_ℕ a s ≡ sub_ℕ (k + s) a
less_sub k a s =
    ap (λ z. pos k +ℤ z) (neg_sub a s)
    ∙ ap (λ z. z +ℤ sub_ℕ s a) (pos_sub k)
    ∙ sub_add k 0 s a
    ∙ sub_eq (k + s) (0 + a) (k + s) a (omega arith)

-- a number less another, and minus a number
pub pos_less : (a b : ℕ) → pos a -ℤ pos b ≡ sub_ℕ a b
pos_less a b = ap (λ z. pos a -ℤ z) (pos_sub b) ∙ less_sub a b 0 ∙ sub_eq (a + 0) b a b (omega arith)

pub neg_is : (n : ℕ) → neg_ℤ (pos n) ≡ sub_ℕ 0 n
neg_is n = ap neg_ℤ (pos_sub n) ∙ neg_sub n 0

-- a number and a difference
pub pos_add : (k a s : ℕ) → pos k +ℤ sub_ℕ a s ≡ sub_ℕ (k + a) s
pos_add k a s = ap (λ z. z +ℤ sub_ℕ a s) (pos_sub k) ∙ sub_add k 0 a s ∙ sub_eq (k + a) (0 + s) (k + a) s (omega arith)

-- ---- order

pub sub_le : (m n p q : ℕ) → m + q ≤ p + n → le_z (sub_ℕ m n) (sub_ℕ p q) ≡ true
sub_le m n p q e =
    ⊎_elim
    (λ h. rw (sub_pos m n h, sub_pos p q (omega arith)) (le-leb (m - n) (p - q) (omega arith)))
    (λ h. ⊎_elim
    (λ k. rw (sub_neg m n h, sub_pos p q k))
    (λ k. rw (sub_neg m n h, sub_neg p q k) (le-leb (q - suc p) (n - suc m) (omega arith)))
    (le_or q p))
    (le_or n m)

sub_gt : (m n p q : ℕ) → p + n < m + q → le_z (sub_ℕ m n) (sub_ℕ p q) ≡ false
sub_gt m n p q e =
    ⊎_elim
    (λ h. ⊎_elim
    (λ k. rw (sub_pos m n h, sub_pos p q k) (lt-leb (m - n) (p - q) (omega arith)))
    (λ k. rw (sub_pos m n h, sub_neg p q k))
    (le_or q p))
    (λ h. rw (sub_neg m n h, sub_neg p q (omega arith)) (lt-leb (q - suc p) (n - suc m) (omega arith)))
    (le_or n m)

-- an order of differences is one of sums
pub sub_order : (m n p q : ℕ) → le_z (sub_ℕ m n) (sub_ℕ p q) ≡ leb (m + q) (p + n)
sub_order m n p q =
    ⊎_elim
    (λ h. sub_le m n p q h ∙ sym (le-leb (m + q) (p + n) h))
    (λ h. sub_gt m n p q h ∙ sym (lt-leb (m + q) (p + n) h))
    (le_or (m + q) (p + n))

less_not : (a b : ℕ) → ltb a b ≡ not (leb b a)
less_not a b = ⊎_elim (λ h. rw (le-ltb a b h, le-leb b a h)) (λ h. rw (lt-ltb a b h, lt-leb b a h)) (le_or b a)

-- below is not at or above
pub below_not : (x y : ℤ) → lt_z x y ≡ not (le_z y x)
below_not (pos a) (pos b) = less_not a b
below_not (pos a) (negsuc b) = refl
below_not (negsuc a) (pos b) = refl
below_not (negsuc a) (negsuc b) = less_not b a

-- ---- the smaller and the larger

-- the smaller of two differences is any that equals the smaller
pub smaller_is : (m n p q a b : ℕ) → (m + q ≤ p + n → a + n ≡ m + b) → (p + n < m + q → a + q ≡ p + b) → smaller_ℤ (sub_ℕ m n) (sub_ℕ p q) ≡ sub_ℕ a b
smaller_is m n p q a b f g =
    ⊎_elim
    (λ h. rw (sub_le m n p q h) (let e = f h in sub_eq m n a b (omega arith)))
    (λ h. rw (sub_gt m n p q h) (let e = g h in sub_eq p q a b (omega arith)))
    (le_or (m + q) (p + n))

pub larger_pos : (k m n : ℕ) → larger_ℤ (pos k) (sub_ℕ m n) ≡ pos (max k (m - n))
larger_pos k m n =
    ⊎_elim
    (λ h. by_cases (max_is k (m - n))
    (λ e. rw (sub_pos m n h, le-leb k (m - n) e.0) (ap pos (sym e.1)))
    (λ e. rw (sub_pos m n h, lt-leb k (m - n) e.0) (ap pos (sym e.1))))
    (λ h. rw (sub_neg m n h) (ap pos (omega arith)))
    (le_or n m)

pub smaller_pos : (x y : ℕ) → smaller_ℤ (pos x) (pos y) ≡ pos (min x y)
smaller_pos x y =
    ⊎_elim
    (λ e. rw (le-leb x y e.0) (ap pos (sym e.1)))
    (λ e. rw (lt-leb x y e.0) (ap pos (sym e.1)))
    (min_is x y)
