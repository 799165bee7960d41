-- Each contract of `wrap` is an equation for the answer.
-- Assumes nothing.
use Rattle.paper.specs.OfWrap.{Functions}
use Rattle.paper.proofs.Determined.{by_equation}

pub functions : Functions
functions =
    record {
      path = λ stations own target links home. by_equation;
    }
