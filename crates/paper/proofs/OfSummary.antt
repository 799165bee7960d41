-- Each contract of `summary` is an equation for the answer.
-- Assumes nothing.
use Rattle.paper.specs.OfSummary.{Functions}
use Rattle.paper.proofs.Determined.{by_equation}

pub functions : Functions
functions =
    record {
      summary_empty = λ limits. by_equation;
      summary_waiting_tick = λ limits amount. by_equation;
      summary_idle_tick = λ limits amount. by_equation;
      summary_send = λ limits size. by_equation;
      summary_counted = λ limits kind number count. by_equation;
      summary_in_range = λ self. by_equation;
      summary_join = λ self other. by_equation;
      summary_join_next = λ self next. by_equation;
      summary_settle = λ self start. by_equation;
      signed = λ p. by_equation;
    }
