-- Each contract of `feed` is an equation for the answer.
-- Assumes nothing.
use Rattle.paper.specs.OfFeed.{Functions}
use Rattle.paper.proofs.Determined.{by_equation}

pub functions : Functions
functions =
    record {
      feed_new = by_equation;
      feed_byte = λ self b. by_equation;
      feed_feed = λ self chunk. by_equation;
      feed_ends = λ self. by_equation;
      feed_finish = λ self. by_equation;
    }
