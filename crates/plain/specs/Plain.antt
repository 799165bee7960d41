-- Summaries by natural numbers alone: the ceiling as its depth below hiLimit, which no event raises above it, and the gain as accrued and sent.
-- The paper's own summary, whose ceiling is signed, stands in the crate `summary`; the laws are proved here, since `omega` reads no signed number.
-- Assumes nothing.
use Rattle.std.specs.Prelude.{ℕ, ◌+◌, ◌-◌, ◌*◌, min, max, cond, List, [], ◌∷◌, ltb}
use Rattle.shaper.specs.declared.Limits.{Limits}
use Rattle.shaper.specs.declared.Event.{Event}
use Rattle.shaper.specs.declared.Event.TheVariants.{Waiting, Idle, Send}
use Rattle.plain.specs.declared.Plain.{Plain}

-- Empty: ceiling hiLimit, need 0.
abbrev pub plain_empty : Limits → Plain
plain_empty l = record { limits = l; events = 0; accrued = 0; sent = 0; depth = 0; need = 0 }

-- ticks that leave the ceiling at one depth, the bytes that they brought in all; need 0
abbrev pub plain_ticks : Limits → ℕ → ℕ → ℕ → Plain
plain_ticks l depth count bytes = record { limits = l; events = count; accrued = bytes; sent = 0; depth = depth; need = 0 }

-- Tick: ceiling hiLimit waiting, loLimit idle; need 0. Send: ceiling hiLimit − size, need loLimit+1.
abbrev pub plain_single : Limits → Event → Plain
plain_single l (Waiting x) = plain_ticks l 0 1 x
plain_single l (Idle x) = plain_ticks l (l.hi - l.lo) 1 x
plain_single l (Send z) = record { limits = l; events = 1; accrued = 0; sent = z; depth = z; need = l.lo + 1 }

-- Run of equal ticks: accrued count × amount; ceiling and need as of one. A send comes alone.
abbrev pub plain_run : Limits → Event → ℕ → Plain
plain_run l (Waiting x) count = plain_ticks l 0 count (count * x)
plain_run l (Idle x) count = plain_ticks l (l.hi - l.lo) count (count * x)
plain_run l (Send z) count = plain_single l (Send z)

-- Need is hiLimit+1 ("never") if ceiling1 < need2, else max(need1, need2 − gain1), at most hiLimit+1.
unfoldable pub plain_need : Plain → Plain → ℕ
plain_need a b =
    cond (ltb a.limits.hi (b.need + a.depth))
    (a.limits.hi + 1)
    (min (max a.need (b.need + a.sent - a.accrued)) (a.limits.hi + 1))

-- Ceiling is the smaller of ceiling1 + gain2 and ceiling2: the depth is the larger.
unfoldable pub plain_depth : Plain → Plain → ℕ
plain_depth a b = max (a.depth + b.sent - b.accrued) b.depth

-- Join of 1 then 2: counts add.
abbrev pub plain_joined : Plain → Plain → Plain
plain_joined a b =
    record {
      limits = a.limits;
      events = a.events + b.events;
      accrued = a.accrued + b.accrued;
      sent = a.sent + b.sent;
      depth = plain_depth a b;
      need = plain_need a b;
    }

-- the summary of a list of events, event by event
abbrev pub plain_of : Limits → List Event → Plain
plain_of l [] = plain_empty l
plain_of l (e ∷ es) = plain_joined (plain_single l e) (plain_of l es)

-- From credit c, ending at min(c + gain, ceiling).
unfoldable pub plain_end_of : Plain → ℕ → ℕ
plain_end_of s c = min (c + s.accrued - s.sent) (s.limits.hi - s.depth)
