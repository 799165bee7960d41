-- Each contract of `roll` is an equation for the answer.
-- Assumes nothing.
use Rattle.paper.specs.OfRoll.{Functions}
use Rattle.paper.proofs.Determined.{both, by_equation}

pub functions : Functions
functions =
    record {
      bytes_put_header = λ s limits. by_equation;
      bytes_put_item = λ s at event count. both;
      bytes_item_length = λ count. by_equation;
      bytes_put_ticks = λ s at tick count. both;
      bytes_put_event = λ s at event. by_equation;
      roll = λ s room. both;
      unroll = λ s room. both;
    }
