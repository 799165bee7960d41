-- Each contract of `wire` is an equation for the answer.
-- Assumes nothing.
use Rattle.paper.specs.OfWire.{Functions}
use Rattle.paper.proofs.Determined.{by_equation, by_first}

pub functions : Functions
functions =
    record {
      get16 = λ s at. by_equation;
      get32 = λ s at. by_equation;
      get64 = λ s at. by_equation;
      put16 = λ s at v. by_equation;
      put32 = λ s at v. by_equation;
      put64 = λ s at v. by_equation;
      get16be = λ s at. by_equation;
      get48be = λ s at. by_equation;
      put16be = λ s at v. by_equation;
      put48be = λ s at v. by_equation;
      read_words = λ N s at. by_equation;
      write_words = λ N words s at. by_first;
      signed64 = λ x. by_equation;
      unsigned64 = λ x. by_equation;
    }
