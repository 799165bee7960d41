-- Each contract of `record` is an equation for the answer.
-- Assumes nothing.
use Rattle.paper.specs.OfRecord.{Functions}
use Rattle.paper.proofs.Determined.{by_equation}

pub functions : Functions
functions =
    record {
      header_of = λ s. by_equation;
      event_at = λ s at mtu runs. by_equation;
      event_within = λ s at mtu left late runs. by_equation;
      may_come = λ done. by_equation;
    }
