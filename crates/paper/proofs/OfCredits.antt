-- Each contract of `credits` is an equation for the answer.
-- Assumes nothing.
use Rattle.paper.specs.OfCredits.{Functions}
use Rattle.paper.proofs.Determined.{by_equation}

pub functions : Functions
functions =
    record {
      credits_in_range = λ self settings. by_equation;
      credits_charge = λ self settings which size. by_equation;
      credits_way = λ self settings class. by_equation;
      credits_short_all = λ self settings way. by_equation;
      credits_pay = λ self settings way size. by_equation;
      way_mark = λ self. by_equation;
    }
