-- What a test that is false says, and when two tests are equal.
-- Assumes nothing.
use mathlib.Core.Bool.{false, true≢false}
use mathlib.Core.Path.{◌≡◌, sym, ◌∙◌}
use Rattle.decide.specs.Test.{Test, Holds, test, passes, facts, decided}
use Rattle.decide.proofs.Cases.{by_cases, true_or_false}

-- a test that is false does not hold, and one that does not hold is false
pub fails : (t : Test) → test t ≡ false → Holds t → ⊥
fails t e h = true≢false (sym (passes t h) ∙ e)

pub failing : (t : Test) → (Holds t → ⊥) → test t ≡ false
failing t f = sym (decided t false f)

-- tests that hold of the same numbers are equal
pub same_test : (s t : Test) → (Holds s → Holds t) → (Holds t → Holds s) → test s ≡ test t
same_test s t f g =
    by_cases (true_or_false (test s)) (λ e. e ∙ sym (passes t (f (facts s e)))) (λ e. e ∙ sym (failing t (λ h. fails s e (g h))))
