-- Each contract of `rates` is an equation for the answer.
-- Assumes nothing.
use Rattle.paper.specs.OfRates.{Functions}
use Rattle.paper.proofs.Determined.{by_equation}

pub functions : Functions
functions =
    record {
      part = λ x coef. by_equation;
      smoothed = λ coef stored rate. by_equation;
      shown = λ coef stored. by_equation;
      shown_ok = λ coef stored. by_equation;
      aged = λ counter coef. by_equation;
      ramped = λ value unreserved coef. by_equation;
      reduced = λ rate coef. by_equation;
      allowance = λ received weight unit unreserved. by_equation;
      own_rate = λ local weight unit. by_equation;
      counted = λ counter size. by_equation;
      share = λ allowed coef ticks. by_equation;
    }
