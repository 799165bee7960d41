-- Each contract of `account` is an equation for the answer.
-- Assumes nothing.
use Rattle.paper.specs.OfAccount.{Functions}
use Rattle.paper.proofs.Determined.{by_equation}

pub functions : Functions
functions =
    record {
      summarize = λ s runs. by_equation;
      events = λ s limits most runs. by_equation;
    }
