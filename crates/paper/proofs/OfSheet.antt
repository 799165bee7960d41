-- Each contract of `sheet` is an equation for the answer.
-- Assumes nothing.
use Rattle.paper.specs.OfSheet.{Functions}
use Rattle.paper.proofs.Determined.{both, by_equation}

pub functions : Functions
functions =
    record {
      read = λ s. by_equation;
      write = λ v s. by_equation;
      hand_over = λ answer room. both;
      opened = λ s. by_equation;
      joined = λ before s. by_equation;
    }
