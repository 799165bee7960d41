-- A summary and the natural numbers that its proofs go by: the ceiling is hiLimit less the depth.
-- Assumes nothing.
use Rattle.std.proofs.Math.IntN.{sub_ℕ}
use Rattle.plain.specs.declared.Plain.{Plain}
use Rattle.plain.specs.Ceiling.{depth_below}
use Rattle.summary.specs.declared.Summary.{Summary}

abbrev pub plain_from : Summary → Plain
plain_from s =
    record {
      limits = s.limits;
      events = s.events;
      accrued = s.accrued;
      sent = s.sent;
      depth = depth_below s.limits.hi s.ceiling;
      need = s.need;
    }

abbrev pub signed_from : Plain → Summary
signed_from p =
    record {
      limits = p.limits;
      events = p.events;
      accrued = p.accrued;
      sent = p.sent;
      ceiling = sub_ℕ p.limits.hi p.depth;
      need = p.need;
    }
