-- P1 to P12 hold together: each is computed.
-- Assumes nothing.
use mathlib.Core.Path.{refl}
use Rattle.decide.specs.Test.{test}
use Rattle.decide.specs.Refusal.{first, first_of, refused_or}
use Rattle.summary.specs.Summary.{ceiling_of, need_ℤ, joined, summary_of}
use Rattle.summary.specs.Range.{in_range}
use Rattle.summary.specs.Answer.{settle_of}
use Rattle.rates.specs.Rates.{part_of, smoothed_of, shown_of, aged_of, own_rate_of}
use Rattle.ring.specs.Links.{usable, run_of}
use Rattle.ring.specs.Choosing.{distance_of, shorter_of, reaches_of, preferred_of, along_of, no_way, choose_of}
use Rattle.wrap.specs.Walking.{course_of, path_of}
use Rattle.paper.specs.Examples.{Examples}

pub examples : Examples
unfolding summary_of joined ceiling_of need_ℤ settle_of in_range smoothed_of shown_of aged_of part_of own_rate_of
    choose_of along_of no_way preferred_of reaches_of shorter_of distance_of run_of usable path_of course_of test first first_of refused_or
examples =
    record {
      p1_ceiling = refl;
      p1_need = refl;
      p2_accrued = refl;
      p2_sent = refl;
      p2_ceiling = refl;
      p2_need = refl;
      p3_ceiling = refl;
      p3_need = refl;
      p3_from_11 = refl;
      p3_from_10 = refl;
      p4_ceiling = refl;
      p4_need = refl;
      p5_need = refl;
      p6_100 = refl;
      p6_101 = refl;
      p7_stored = refl;
      p7_shown = refl;
      p7_next_stored = refl;
      p7_next_shown = refl;
      p8 = refl;
      p9 = refl;
      p10 = refl;
      p10_down = refl;
      p11 = refl;
      p12 = refl;
      p12_links = refl;
    }
