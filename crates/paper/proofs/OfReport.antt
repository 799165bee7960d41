-- Each contract of `report` is an equation for the answer.
-- Assumes nothing.
use Rattle.paper.specs.OfReport.{Functions}
use Rattle.paper.proofs.Determined.{both}

pub functions : Functions
functions =
    record {
      fill = λ answer room. both;
      put_answer = λ s at answer. both;
      put_line = λ s at words n. both;
      put_signed = λ s at n. both;
      put_numeral = λ s at n. both;
      put_words = λ s at words. both;
    }
