-- Each contract of `reader` is an equation for the answer.
-- Assumes nothing.
use Rattle.paper.specs.OfReader.{Functions}
use Rattle.paper.proofs.Determined.{by_equation}

pub functions : Functions
functions =
    record {
      read_at = λ bytes place. by_equation;
    }
