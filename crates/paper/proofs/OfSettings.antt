-- Each contract of `settings` is an equation for the answer.
-- Assumes nothing.
use Rattle.paper.specs.OfSettings.{Functions}
use Rattle.paper.proofs.Determined.{by_equation}

pub functions : Functions
functions =
    record {
      settings_in_range = λ self. by_equation;
      address_number = λ self. by_equation;
      bucket_in_range = λ self mtu. by_equation;
      bucket_limits = λ self mtu. by_equation;
      shapers_in_range = λ self mtu. by_equation;
      queues_in_range = λ self mtu. by_equation;
      fairness_usual = λ weight unit ticks unreserved. by_equation;
      fairness_in_range = λ self. by_equation;
      site_is_aggressive = λ self. by_equation;
      in_range_at = λ s at. by_equation;
      settings_read = λ s at. by_equation;
      settings_write = λ self s at. by_equation;
    }
