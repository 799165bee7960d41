-- Each contract of `flow` is an equation for the answer.
-- Assumes nothing.
use Rattle.paper.specs.OfFlow.{Functions}
use Rattle.paper.proofs.Determined.{by_equation}

pub functions : Functions
functions =
    record {
      flow_leave = λ self origin credits stage. by_equation;
      flow_start = λ settings. by_equation;
      flow_in_range = λ self settings. by_equation;
      flow_tick = λ self settings share a b c. by_equation;
      flow_stage_holds = λ self. by_equation;
      bounds = λ settings. by_equation;
      stage_ok_lem = λ bounds word. by_equation;
      flow_transit = λ self settings frame. by_equation;
      flow_control = λ self settings size. by_equation;
      flow_client = λ self settings class size hops over. by_equation;
      line_queue_for = λ settings class. by_equation;
    }
