-- Each contract of `heard` is an equation for the answer.
-- Assumes nothing.
use Rattle.paper.specs.OfHeard.{Functions}
use Rattle.paper.proofs.Determined.{by_equation}

pub functions : Functions
functions =
    record {
      received_none = by_equation;
      received_in_range = λ self stations. by_equation;
      ttl_ok_lem = λ ttl. by_equation;
      hops_of_lem = λ ttl. by_equation;
      ttl_in_ring = λ stations ttl. by_equation;
      is_own_ringlet = λ settings advert. by_equation;
      is_own_address = λ settings advert. by_equation;
      received_from = λ advert. by_equation;
      own_frame_lem = λ settings rate. by_equation;
      other_ringlet_lem = λ settings. by_equation;
      last_hop_lem = λ settings ttl. by_equation;
    }
