-- Each contract of `stretch` is an equation for the answer.
-- Assumes nothing.
use Rattle.paper.specs.OfStretch.{Functions}
use Rattle.paper.proofs.Determined.{by_equation}

pub functions : Functions
functions =
    record {
      stretch = λ s index first last. by_equation;
    }
