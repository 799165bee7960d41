-- Each contract of `tally` is an equation for the answer.
-- Assumes nothing.
use Rattle.paper.specs.OfTally.{Functions}
use Rattle.paper.proofs.Determined.{by_equation}

pub functions : Functions
functions =
    record {
      part_none = λ rise. by_equation;
      part_grow = λ self rise send idle v good. by_equation;
      tally_over = λ self rise parts. by_equation;
      start = λ lo. by_equation;
      step = λ t rise k v. by_equation;
      finish = λ limits n t. by_equation;
    }
