-- Each contract of `advert` is an equation for the answer.
-- Assumes nothing.
use Rattle.paper.specs.OfAdvert.{Functions}
use Rattle.paper.proofs.Determined.{by_equation}

pub functions : Functions
functions =
    record {
      write = λ advert room. by_equation;
      parse = λ frame. by_equation;
      is_whole = λ frame. by_equation;
    }
