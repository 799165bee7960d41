-- Each contract of `plain` is an equation for the answer.
-- Assumes nothing.
use Rattle.paper.specs.OfPlain.{Functions}
use Rattle.paper.proofs.Determined.{by_equation}

pub functions : Functions
functions =
    record {
      plain_in_range = λ self. by_equation;
      plain_joined_lem = λ self other. by_equation;
      plain_end = λ self start. by_equation;
      depth_of = λ hi ceiling. by_equation;
      ceiling_of = λ hi depth. by_equation;
    }
