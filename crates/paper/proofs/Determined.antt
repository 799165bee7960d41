-- A contract that is an equation determines its answer.
-- Assumes nothing.
use mathlib.Core.Path.{◌≡◌, sym, ◌∙◌}
use Rattle.paper.specs.Determined.{Determined, Determined²}

pub by_equation : {A : Type 0} {a : A} → Determined (λ (r : A). r ≡ a)
by_equation = λ x y p q. p ∙ sym q

-- the equation stands first, and a fact of the arguments beside it
pub by_first : {A P : Type 0} {a : A} → Determined (λ (r : A). (r ≡ a) × P)
by_first = λ x y p q. p.0 ∙ sym q.0

-- an equation for each
pub both : {A B : Type 0} {a : A} {b : B} → Determined² (λ (r : A) (s : B). (r ≡ a) × (s ≡ b))
both = λ x y s t p q. (p.0 ∙ sym q.0, p.1 ∙ sym q.1)
