-- Each contract of `layout` is an equation for the answer.
-- Assumes nothing.
use Rattle.paper.specs.OfLayout.{Functions}
use Rattle.paper.proofs.Determined.{by_equation}

pub functions : Functions
functions =
    record {
      fairness_read = λ s at. by_equation;
      fairness_in_range_at = λ s at settings. by_equation;
      fairness_write = λ f s at. by_equation;
      fairness_write_four = λ r s at. by_equation;
      fairness_write_decided = λ d s at. by_equation;
      fairness_write_received = λ r s at. by_equation;
      read = λ s. by_equation;
      in_range = λ whole. by_equation;
      pick = λ s. by_equation;
      write = λ st s. by_equation;
      write_credits = λ c s. by_equation;
      push_frame = λ line class size hops mark s. by_equation;
      take_frame = λ origin s. by_equation;
      write_stage = λ word s. by_equation;
      write_fair = λ f s. by_equation;
      write_counters = λ c s. by_equation;
      write_reading = λ r s. by_equation;
    }
