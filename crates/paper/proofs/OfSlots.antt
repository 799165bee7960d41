-- Each contract of `slots` is an equation for the answer.
-- Assumes nothing.
use Rattle.paper.specs.OfSlots.{Functions}
use Rattle.paper.proofs.Determined.{by_equation, by_first}

pub functions : Functions
functions =
    record {
      read = λ s at. by_equation;
      front = λ s at. by_equation;
      write = λ q s at. by_first;
      push = λ f s at. by_equation;
      take = λ s at. by_equation;
      in_range = λ s at bounds capacity. by_equation;
    }
