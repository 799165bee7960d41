-- Cases that proofs of other crates go by.
-- Assumes nothing.
use Prim.Native.Nat.{ℕ, ◌≤◌, ◌<◌, min, max}
use mathlib.Core.Bool.{Bool, true, false, cond}
use mathlib.Core.Logic.{◌⊎◌, inl, inr, ⊎_elim}
use mathlib.Core.Path.{◌≡◌, refl}
use native.Mathlib.Omega.{arith}
use Rattle.decide.specs.Test.{split, ◌≤?◌}

-- the sum first, so that its parts' types are known in the arms
pub by_cases : {A B C : Type 0} → A ⊎ B → (A → C) → (B → C) → C
by_cases s f g = ⊎_elim f g s

-- a test is true or false
pub true_or_false : (b : Bool) → (b ≡ true) ⊎ (b ≡ false)
true_or_false true = inl refl
true_or_false false = inr refl

-- what holds of each branch holds of the choice
pub of_each : {A : Type 0} (P : A → Type 0) (b : Bool) (x y : A) → (b ≡ true → P x) → (b ≡ false → P y) → P (cond b x y)
of_each P true x y f g = f refl
of_each P false x y f g = g refl

pub le_or : (m n : ℕ) → (m ≤ n) ⊎ (n < m)
le_or m n = ⊎_elim (λ h. inl h) (λ h. inr (omega arith)) (split (m ≤? n))

pub min_is : (m n : ℕ) → ((m ≤ n) × (min m n ≡ m)) ⊎ ((n < m) × (min m n ≡ n))
min_is m n = ⊎_elim (λ h. inl (omega arith)) (λ h. inr (omega arith)) (le_or m n)

pub max_is : (m n : ℕ) → ((m ≤ n) × (max m n ≡ n)) ⊎ ((n < m) × (max m n ≡ m))
max_is m n = ⊎_elim (λ h. inl (omega arith)) (λ h. inr (omega arith)) (le_or m n)
