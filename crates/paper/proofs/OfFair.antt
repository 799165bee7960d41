-- Each contract of `fair` is an equation for the answer.
-- Assumes nothing.
use Rattle.paper.specs.OfFair.{Functions}
use Rattle.paper.proofs.Determined.{by_equation}

pub functions : Functions
functions =
    record {
      adjusted_adjust = λ self settings smoothed held. by_equation;
      fair_told = λ self settings. by_equation;
      fair_heard = λ self advert. by_equation;
      four_in_range = λ self. by_equation;
      stored_shown = λ self coef. by_equation;
      fair_in_range = λ self settings. by_equation;
      fair_start = λ settings. by_equation;
      fair_is_beyond = λ self hops. by_equation;
      fair_is_over = λ self size hops. by_equation;
      fair_count = λ self settings origin mark hops size. by_equation;
      fair_age = λ self settings held. by_equation;
      fair_share = λ self settings. by_equation;
    }
