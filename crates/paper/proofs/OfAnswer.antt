-- Each contract of `answer` is an equation for the answer.
-- Assumes nothing.
use Rattle.paper.specs.OfAnswer.{Functions}
use Rattle.paper.proofs.Determined.{by_equation}

pub functions : Functions
functions =
    record {
      chosen = λ side distance ttl mark. by_equation;
      moved = λ delivered hops. by_equation;
      permitted = λ credit. by_equation;
      written = λ n. by_equation;
      marked = λ mark. by_equation;
      refused = λ number detail. by_equation;
      selected = λ origin frame. by_equation;
    }
