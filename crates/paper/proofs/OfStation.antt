-- Each contract of `station` is an equation for the answer.
-- Assumes nothing.
use Rattle.paper.specs.OfStation.{Functions}
use Rattle.paper.proofs.Determined.{by_equation}

pub functions : Functions
functions =
    record {
      station_offer_client = λ self class size hops. by_equation;
      station_offer_client_known = λ self good class size hops. by_equation;
      station_offer_transit = λ self class size hops eligible. by_equation;
      station_offer_transit_known = λ self good class size hops eligible. by_equation;
      station_offer_control = λ self size. by_equation;
      station_offer_control_known = λ self good size. by_equation;
      station_hear = λ self frame. by_equation;
      station_hear_known = λ self good frame. by_equation;
      station_tell = λ self. by_equation;
      station_tell_known = λ self good. by_equation;
      station_fresh = λ settings. by_equation;
      station_in_range = λ self. by_equation;
      station_start = λ self settings. by_equation;
      station_tick = λ self a b c. by_equation;
      station_tick_known = λ self good a b c. by_equation;
      station_select = λ self. by_equation;
      station_age = λ self. by_equation;
      station_age_known = λ self good. by_equation;
      picked = λ settings sight fair. by_equation;
      station_show = λ self. by_equation;
      station_show_known = λ self good. by_equation;
    }
