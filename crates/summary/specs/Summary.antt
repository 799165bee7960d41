-- A summary as the paper has it: the settings, events, accrued, sent, ceiling, need. Its ceiling and its gain are signed.
-- Assumes nothing.
use Rattle.std.specs.Prelude.{ℕ, ◌+◌, ◌*◌, cond, List, [], ◌∷◌, ℤ, pos, nat_abs, ◌+ℤ◌, ◌-ℤ◌}
use Rattle.std.specs.Int.Signed.{le_z, lt_z}
use Rattle.shaper.specs.declared.Limits.{Limits}
use Rattle.shaper.specs.declared.Event.{Event}
use Rattle.shaper.specs.declared.Event.TheVariants.{Waiting, Idle, Send}
use Rattle.summary.specs.declared.Summary.{Summary}

abbrev pub smaller_ℤ : ℤ → ℤ → ℤ
smaller_ℤ x y = cond (le_z x y) x y

abbrev pub larger_ℤ : ℤ → ℤ → ℤ
larger_ℤ x y = cond (le_z x y) y x

-- Gain is accrued − sent.
abbrev pub gain : Summary → ℤ
gain s = pos s.accrued -ℤ pos s.sent

-- Empty: ceiling hiLimit, need 0.
abbrev pub empty_of : Limits → Summary
empty_of l = record { limits = l; events = 0; accrued = 0; sent = 0; ceiling = pos l.hi; need = 0 }

-- ticks that leave credit under one ceiling, the bytes that they brought in all; need 0
abbrev pub ticks_of : Limits → ℕ → ℕ → ℕ → Summary
ticks_of l ceiling count bytes = record { limits = l; events = count; accrued = bytes; sent = 0; ceiling = pos ceiling; need = 0 }

-- Tick: ceiling hiLimit waiting, loLimit idle; need 0. Send: ceiling hiLimit − size, need loLimit+1.
abbrev pub single_of : Limits → Event → Summary
single_of l (Waiting x) = ticks_of l l.hi 1 x
single_of l (Idle x) = ticks_of l l.lo 1 x
single_of l (Send z) = record { limits = l; events = 1; accrued = 0; sent = z; ceiling = pos l.hi -ℤ pos z; need = l.lo + 1 }

-- Run of equal ticks: accrued count × amount, ceiling hiLimit waiting, loLimit idle; need 0. A send comes alone.
abbrev pub run_summary : Limits → Event → ℕ → Summary
run_summary l (Waiting x) count = ticks_of l l.hi count (count * x)
run_summary l (Idle x) count = ticks_of l l.lo count (count * x)
run_summary l (Send z) count = single_of l (Send z)

-- Ceiling is the smaller of ceiling1 + gain2 and ceiling2.
unfoldable pub ceiling_of : Summary → Summary → ℤ
ceiling_of a b = smaller_ℤ (a.ceiling +ℤ gain b) b.ceiling

-- Need is hiLimit+1 ("never") if ceiling1 < need2, else max(need1, need2 − gain1), at most hiLimit+1.
unfoldable pub need_ℤ : Summary → Summary → ℤ
need_ℤ a b =
    cond (lt_z a.ceiling (pos b.need))
    (pos (a.limits.hi + 1))
    (smaller_ℤ (larger_ℤ (pos a.need) (pos b.need -ℤ gain a)) (pos (a.limits.hi + 1)))

-- Join of 1 then 2: counts add. (Need is never negative, so that its size is itself: `need_signed`.)
unfoldable pub joined : Summary → Summary → Summary
joined a b =
    record {
      limits = a.limits;
      events = a.events + b.events;
      accrued = a.accrued + b.accrued;
      sent = a.sent + b.sent;
      ceiling = ceiling_of a b;
      need = nat_abs (need_ℤ a b);
    }

-- The summary of events is that of each, joined one after the other.
unfoldable pub summary_of : Limits → List Event → Summary
summary_of l [] = empty_of l
summary_of l (e ∷ es) = joined (single_of l e) (summary_of l es)

-- min(c + gain, ceiling)
abbrev pub end_ℤ : Summary → ℕ → ℤ
end_ℤ s c = smaller_ℤ (pos c +ℤ gain s) s.ceiling
