-- The derive compares the fields in their order, and so does the test but for the ceiling.
-- Assumes nothing.
use mathlib.Core.Bool.{Bool, true, false, ◌&&◌}
use mathlib.Core.Path.{◌≡◌, refl, ◌∙◌}
use lib.Dec.{eqb}
use Rattle.decide.specs.Test.{test}
use Rattle.shaper.specs.Limits.{same_limits}
use Rattle.summary.specs.declared.Summary.{Summary}
use Rattle.window.specs.Both.{eq_ℤ, same_summary}
use Rattle.window.proofs.Equal.{equal_ℤ}
use Rattle.window.proofs.same_answer.Goals as goal

last_two : (n z : Bool) → (z && n) ≡ (n && z)
last_two true true = refl
last_two true false = refl
last_two false true = refl
last_two false false = refl

reordered : (l e a s n z : Bool) → (l && (e && (a && (s && (z && n))))) ≡ ((l && (e && (a && (s && n)))) && z)
reordered false e a s n z = refl
reordered true false a s n z = refl
reordered true true false s n z = refl
reordered true true true false n z = refl
reordered true true true true n z = last_two n z

compared : (s t : Summary) →
    (test (same_limits s.limits t.limits) && (eqb s.events t.events && (eqb s.accrued t.accrued && (eqb s.sent t.sent && (eq_ℤ s.ceiling t.ceiling && eqb s.need t.need))))) ≡ same_summary s t
unfolding same_summary test
compared s t = reordered (test (same_limits s.limits t.limits)) (eqb s.events t.events) (eqb s.accrued t.accrued) (eqb s.sent t.sent) (eqb s.need t.need) (eq_ℤ s.ceiling t.ceiling)

pub returns-in-Ok-Ok : goal.returns-in-Ok-Ok
unfolding test
returns-in-Ok-Ok c =
    let s = c.in-Ok-Ok.s in
    let t = c.in-Ok-Ok.t in
    rw (c.in-Ok-Ok.is-0, c.in-Ok-Ok.is-1) (rw (equal_ℤ s.ceiling t.ceiling) at c.eq.ensures ∙ compared s t)
