-- Each contract of `ring` is an equation for the answer.
-- Assumes nothing.
use Rattle.paper.specs.OfRing.{Functions}
use Rattle.paper.proofs.Determined.{by_equation}

pub functions : Functions
functions =
    record {
      choose = λ stations own target links side protection ring. by_equation;
      misplaced = λ stations own target links. by_equation;
      way_other = λ self. by_equation;
    }
