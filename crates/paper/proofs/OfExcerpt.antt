-- Each contract of `excerpt` is an equation for the answer.
-- Assumes nothing.
use Rattle.paper.specs.OfExcerpt.{Functions}
use Rattle.paper.proofs.Determined.{by_equation}

pub functions : Functions
functions =
    record {
      part = λ s limits place count. by_equation;
      events_left_lem = λ s mtu place most. by_equation;
    }
