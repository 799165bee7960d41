-- Each contract of `hex_text` is an equation for the answer.
-- Assumes nothing.
use Rattle.paper.specs.OfHexText.{Functions}
use Rattle.paper.proofs.Determined.{by_equation}

pub functions : Functions
functions =
    record {
      hex_new = by_equation;
      hex_text = λ self chunk. by_equation;
      hex_finish = λ self. by_equation;
      hex_is_text = λ self. by_equation;
      hex_ends = λ self. by_equation;
      glyph_of_lem = λ c. by_equation;
    }
