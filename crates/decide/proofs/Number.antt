-- A refusal made of a number is told by that number.
-- Assumes nothing.
use Rattle.std.specs.Prelude.{ℕ, zero, suc, ◌≡◌, refl, Result, Ok, Err}
use mathlib.Core.Path.{sym, ap, ◌∙◌}
use Rattle.decide.specs.declared.refusal.Refusal.{Refusal}
use Rattle.decide.specs.Number.{number_in, refusal_of}

pub number_told : (n : ℕ) → number_in (refusal_of n) ≡ n
number_told zero = refl
number_told (suc zero) = refl
number_told (suc (suc zero)) = refl
number_told (suc (suc (suc zero))) = refl
number_told (suc (suc (suc (suc zero)))) = refl
number_told (suc (suc (suc (suc (suc zero))))) = refl
number_told (suc (suc (suc (suc (suc (suc zero)))))) = refl
number_told (suc (suc (suc (suc (suc (suc (suc zero))))))) = refl
number_told (suc (suc (suc (suc (suc (suc (suc (suc zero)))))))) = refl
number_told (suc (suc (suc (suc (suc (suc (suc (suc (suc zero))))))))) = refl
number_told (suc (suc (suc (suc (suc (suc (suc (suc (suc (suc zero)))))))))) = refl
number_told (suc (suc (suc (suc (suc (suc (suc (suc (suc (suc (suc zero))))))))))) = refl
number_told (suc (suc (suc (suc (suc (suc (suc (suc (suc (suc (suc (suc zero)))))))))))) = refl
number_told (suc (suc (suc (suc (suc (suc (suc (suc (suc (suc (suc (suc (suc zero))))))))))))) = refl
number_told (suc (suc (suc (suc (suc (suc (suc (suc (suc (suc (suc (suc (suc (suc n)))))))))))))) = refl

-- the number of a refused answer, and 0 of any other
abbrev told : {A : Type 0} → Result A Refusal → ℕ
told (Ok a) = 0
told (Err r) = number_in r

-- answers refused alike bear one number
pub refused_alike : {A : Type 0} (m n : ℕ) → ◌≡◌ {A = Result A Refusal} (Err (refusal_of m)) (Err (refusal_of n)) → m ≡ n
refused_alike m n e = sym (number_told m) ∙ ap told e ∙ number_told n
