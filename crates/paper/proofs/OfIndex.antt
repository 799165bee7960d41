-- Each contract of `index` is an equation for the answer.
-- Assumes nothing.
use Rattle.paper.specs.OfIndex.{Functions}
use Rattle.paper.proofs.Determined.{both, by_equation}

pub functions : Functions
functions =
    record {
      entries_put_entry = λ s at place sum. by_equation;
      entries_summary_at = λ s at limits. by_equation;
      entries_place_at = λ s at. by_equation;
      length = λ events. by_equation;
      fill = λ s room. both;
    }
