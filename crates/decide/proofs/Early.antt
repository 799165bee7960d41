-- A conjunction that is asked part by part and left early: one part that does not hold answers no, and where all others hold the last one answers.
-- Assumes nothing.
use mathlib.Core.Bool.{false}
use mathlib.Core.Logic.{⊎_elim}
use mathlib.Core.Path.{◌≡◌, sym, ◌∙◌}
use Rattle.decide.specs.Test.{Test, test, Holds, passes, decided, split}

module _ (whole part : Test) (of : Holds whole → Holds part) where
  -- a part does not hold
  pub part_out : (Holds part → ⊥) → false ≡ test whole
  part_out out = decided whole false (λ h. out (of h))

  -- all but this part hold
  pub last_says : (Holds part → Holds whole) → test part ≡ test whole
  last_says rest = ⊎_elim (λ h. passes part h ∙ sym (passes whole (rest h))) (λ n. sym (decided part false n) ∙ part_out n) (split part)
