-- What is known of an answer that goes by the number of its rows, once it is found to be a refusal, or what the call left.
-- Assumes nothing.
use Prim.Native.Nat.{ℕ, zero, suc, ◌<◌}
use mathlib.Core.Path.{◌≡◌, refl, sym, ap, ◌∙◌}
use native.Mathlib.Omega.{arith}
use Rattle.std.specs.Prelude.{Result, Ok, Err}
use Rattle.decide.specs.Number.{number_in}
use Rattle.decide.specs.Refusal.{refused_or}
use Rattle.decide.proofs.Number.{number_told}
use Rattle.shaper.specs.declared.Refused.{Refused}
use Rattle.shaper.specs.Refused.{refused, number_said, detail_said, afterwards}

-- a refusal, or not
abbrev turned : {A : Type 0} → Result A Refused → ℕ
turned (Ok a) = 0
turned (Err e) = 1

module _ {A : Type 0} (detail : ℕ → ℕ) (a : A) where
  -- the answer by a number: a refusal says this beside it
  abbrev by_number : ℕ → Result A Refused
  by_number n = refused_or (λ m. Err (refused m (detail m))) n (Ok a)

  -- a refusal bears the number, which is not 0, and says what is said beside it
  pub refusal_known : (n : ℕ) (d : Result A Refused) → d ≡ by_number n → (r : Refused) → d ≡ Err r → (0 < n) × (number_in r.refusal ≡ n) × (r.detail ≡ detail n)
  unfolding refused_or
  refusal_known zero d h r e = let z = ap turned (sym h ∙ e) in absurd (omega arith)
  refusal_known (suc n) d h r e = (omega arith, ap number_said (sym e ∙ h) ∙ number_told (suc n), ap detail_said (sym e ∙ h))

  -- what is left is what the call leaves, and no row counts
  pub left_known : (n : ℕ) (d : Result A Refused) → d ≡ by_number n → (b : A) → d ≡ Ok b → (n ≡ 0) × (b ≡ a)
  unfolding refused_or
  left_known zero d h b e = (refl, ap (afterwards a) (sym e ∙ h))
  left_known (suc n) d h b e = let z = ap turned (sym h ∙ e) in absurd (omega arith)
