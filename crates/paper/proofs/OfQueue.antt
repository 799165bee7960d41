-- Each contract of `queue` is an equation for the answer.
-- Assumes nothing.
use Rattle.paper.specs.OfQueue.{Functions}
use Rattle.paper.proofs.Determined.{by_equation}

pub functions : Functions
functions =
    record {
      hops_ok_lem = λ hops. by_equation;
      frame_in_range = λ self bounds. by_equation;
      frame_word = λ self. by_equation;
      frame_of_lem = λ w. by_equation;
      front_first = λ self. by_equation;
      front_space = λ self capacity. by_equation;
      front_holds_frame = λ self. by_equation;
      queue_empty = by_equation;
      queue_push = λ self f. by_equation;
      queue_front = λ self. by_equation;
      queue_take = λ self. by_equation;
      queue_space = λ self capacity. by_equation;
      queue_holds_frame = λ self. by_equation;
      queue_in_range = λ self bounds capacity. by_equation;
      word_ok = λ bounds w. by_equation;
      word_used = λ w. by_equation;
    }
