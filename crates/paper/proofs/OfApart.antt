-- Each contract of `apart` is an equation for the answer.
-- Assumes nothing.
use Rattle.paper.specs.OfApart.{Functions}
use Rattle.paper.proofs.Determined.{both, by_equation}

pub functions : Functions
functions =
    record {
      opening = λ first second room. both;
      page = λ first second a b walk room. both;
      closing = λ first second room. both;
      line_put_setting = λ s at words a b. both;
      line_put_line = λ s at n line. both;
      line_put_both = λ s at n e f. both;
      step_level = λ first second p q. by_equation;
      step_is_event = λ s at mtu. by_equation;
      step_event_in = λ s at. by_equation;
      step_put_if = λ s at n e f. both;
      step_passed = λ walk k end. by_equation;
      together_turn = λ first second a b walk. by_equation;
      together_stand = λ window place side. by_equation;
      together_event = λ kind number. by_equation;
      together_differs = λ e f. by_equation;
    }
