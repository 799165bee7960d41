-- Each contract of `selection` is an equation for the answer.
-- Assumes nothing.
use Rattle.paper.specs.OfSelection.{Functions}
use Rattle.paper.proofs.Determined.{by_equation}

pub functions : Functions
functions =
    record {
      sight_of_lem = λ flow. by_equation;
      sight_pick = λ self settings. by_equation;
    }
