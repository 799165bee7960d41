-- Each contract of `entry` is an equation for the answer.
-- Assumes nothing.
use Rattle.paper.specs.OfEntry.{Functions}
use Rattle.paper.proofs.Determined.{both, by_equation}

pub functions : Functions
functions =
    record {
      shaper_tick = λ s waiting amount. by_equation;
      shaper_charge = λ s size. both;
      tick = λ s a b c. both;
      offer_client = λ s class size hops. both;
      offer_transit = λ s class size hops eligible. both;
      offer_control = λ s size. both;
      select = λ s. both;
      age = λ s. both;
      hear = λ s frame. both;
    }
