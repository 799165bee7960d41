-- Each contract of `window` is an equation for the answer.
-- Assumes nothing.
use Rattle.paper.specs.OfWindow.{Functions}
use Rattle.paper.proofs.Determined.{by_equation}

pub functions : Functions
functions =
    record {
      both = by_equation;
      fed = λ before first second. by_equation;
      same_answer = λ a b. by_equation;
      alike = λ first second. by_equation;
    }
