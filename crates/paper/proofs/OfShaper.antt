-- Each contract of `shaper` is an equation for the answer.
-- Assumes nothing.
use Rattle.paper.specs.OfShaper.{Functions}
use Rattle.paper.proofs.Determined.{by_equation}

pub functions : Functions
functions =
    record {
      limits_in_range = λ self. by_equation;
      limits_same = λ self other. by_equation;
      ask = λ credit lo. by_equation;
      shaper_fresh = λ limits. by_equation;
      shaper_tick = λ self waiting amount. by_equation;
      shaper_charge = λ self size. by_equation;
    }
