-- Each contract of `heartbeat` is an equation for the answer.
-- Assumes nothing.
use Rattle.paper.specs.OfHeartbeat.{Functions}
use Rattle.paper.proofs.Determined.{by_equation}

pub functions : Functions
functions =
    record {
      rpr_heartbeat = λ pattern repeats. by_equation;
      heartbeats = λ pattern repeats. by_equation;
      from_low = λ answer. by_equation;
      pattern_of_lem = λ pattern. by_equation;
      repeated = λ one repeats. by_equation;
      doubled = λ one repeats. by_equation;
    }
