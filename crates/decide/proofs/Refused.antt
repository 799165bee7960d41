-- The laws of `refused_or`, whatever a call answers: at 0 it is carried out, else refused; the answer bears the number, and a refusal leaves what it leaves.
-- Assumes nothing.
use Prim.Native.Nat.{ℕ, zero, suc, ◌<◌}
use mathlib.Core.Path.{◌≡◌, refl, sym, ap, ◌∙◌}
use native.Mathlib.Omega.{arith}
use Rattle.decide.specs.Refusal.{refused_or}

module _ {A : Type 0} (refused : ℕ → A) (done : A) where
  -- what holds of what is carried out, and of each refusal, holds of the answer
  pub of_answer : (P : A → Type 0) (n : ℕ) → (n ≡ 0 → P done) → (0 < n → P (refused n)) → P (refused_or refused n done)
  unfolding refused_or
  of_answer P zero carried turned = carried refl
  of_answer P (suc n) carried turned = turned (omega arith)

  pub carried_by : (n : ℕ) → n ≡ 0 → refused_or refused n done ≡ done
  carried_by n e = of_answer (λ (a : A). a ≡ done) n (λ z. refl) (λ h. absurd (omega arith))

  pub refused_by : (n : ℕ) → 0 < n → refused_or refused n done ≡ refused n
  refused_by n h = of_answer (λ (a : A). a ≡ refused n) n (λ z. absurd (omega arith)) (λ h. refl)

-- an answer that bears no number is what is carried out
pub unrefused : {A : Type 0} (number : A → ℕ) (refused : ℕ → A) (done : A) → ((m : ℕ) → number (refused m) ≡ m) → (n : ℕ) (a : A) → a ≡ refused_or refused n done → number a ≡ 0
    → (n ≡ 0) × (a ≡ done)
unfolding refused_or
unrefused number refused done bears zero a e z = (refl, e)
unrefused number refused done bears (suc n) a e z = let m = sym (bears (suc n)) ∙ ap number (sym e) ∙ z in absurd (omega arith)

-- ---- answers that bear their number: each refusal its own, and what is carried out 0

module _ {A : Type 0} (number : A → ℕ) (refused : ℕ → A) (done : A) (bears : (m : ℕ) → number (refused m) ≡ m) (none : number done ≡ 0) where
  -- the number is the one that the answer goes by
  pub number_by : (n : ℕ) → number (refused_or refused n done) ≡ n
  number_by n = of_answer refused done (λ (a : A). number a ≡ n) n (λ z. none ∙ sym z) (λ h. bears n)

  -- a refusal leaves what every refusal leaves
  pub leaves_by : {B : Type 0} (left : A → B) {old : B} → ((m : ℕ) → left (refused m) ≡ old) → (n : ℕ) → 0 < number (refused_or refused n done) → left (refused_or refused n done) ≡ old
  leaves_by left leaves n h = ap left (refused_by refused done n (omega (arith, number_by n))) ∙ leaves n

  -- an answer that goes by its own number, what it told handed on, goes by the number of the first
  pub handed_on : {B : Type 0} (other : ℕ → B) (told : A → B) (n : ℕ) (a : A) → a ≡ refused_or refused n done → refused_or other (number a) (told a) ≡ refused_or other n (told done)
  unfolding refused_or
  handed_on other told zero a e = rw (e, none)
  handed_on other told (suc n) a e = rw (e, bears (suc n))
