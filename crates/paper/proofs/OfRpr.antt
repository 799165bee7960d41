-- Each contract of `rpr` is an equation for the answer.
-- Assumes nothing.
use Rattle.paper.specs.OfRpr.{Functions}
use Rattle.paper.proofs.Determined.{both, by_equation}

pub functions : Functions
functions =
    record {
      rpr_station_length = by_equation;
      rpr_start = λ settings station. both;
      rpr_tick = λ station a b c. both;
      rpr_offer_client = λ station class size hops. both;
      rpr_offer_transit = λ station class size hops eligible. both;
      rpr_offer_control = λ station size. both;
      rpr_select = λ station. both;
      rpr_age = λ station. both;
      rpr_read_frame = λ station frame. both;
      rpr_write_frame = λ station room. both;
      rpr_show = λ station room. both;
      rpr_version = by_equation;
      rpr_summarize = λ «record» room. both;
      rpr_join = λ first second room. both;
      rpr_settle = λ summary start. by_equation;
      rpr_roll = λ «record» room. both;
      rpr_unroll = λ «record» room. both;
      rpr_choose = λ stations own target links side protection ring. by_equation;
      rpr_path = λ stations own target links home. by_equation;
    }
