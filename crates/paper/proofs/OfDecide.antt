-- Each contract of `decide` is an equation for the answer.
-- Assumes nothing.
use Rattle.paper.specs.OfDecide.{Functions}
use Rattle.paper.proofs.Determined.{by_equation}

pub functions : Functions
functions =
    record {
      lesser = λ x y. by_equation;
      larger = λ x y. by_equation;
      less = λ x y. by_equation;
      below = λ a b. by_equation;
      in_ring_lem = λ stations hops. by_equation;
      refusal_number = λ self. by_equation;
    }
