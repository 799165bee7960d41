-- The paper's range of a summary, as the test and as named facts.
-- Assumes nothing.
use Rattle.std.specs.Prelude.{◌+◌, ◌*◌, ◌≤◌, Bool, ◌&&◌, ◌||◌, leb, ltb, pos, neg_ℤ, ◌+ℤ◌, ◌≤ℤ◌}
use Rattle.std.specs.Int.Signed.{le_z}
use Rattle.decide.specs.Test.{test}
use Rattle.shaper.specs.Limits.{limits_ok, LimitsOk, most_size, most_amount, most_events}
use Rattle.summary.specs.declared.Summary.{Summary}
use Rattle.summary.specs.Summary.{gain}

-- accrued ≤ 65,535 × events; sent ≤ 9,216 × events
abbrev pub counts_ok : Summary → Bool
counts_ok s = leb s.accrued (most_amount * s.events) && leb s.sent (most_size * s.events)

-- ceiling ≤ hiLimit, ≤ hiLimit + gain, ≥ −9,216 × events
abbrev pub ceiling_ok : Summary → Bool
ceiling_ok s =
    le_z s.ceiling (pos s.limits.hi)
    && (le_z s.ceiling (pos s.limits.hi +ℤ gain s) && le_z (neg_ℤ (pos (most_size * s.events))) s.ceiling)

-- need 0 to hiLimit+1; and if need ≤ hiLimit, ceiling ≥ 0 and need + gain ≥ 0
abbrev pub need_ok : Summary → Bool
need_ok s =
    leb s.need (s.limits.hi + 1)
    && (ltb s.limits.hi s.need || (le_z (pos 0) s.ceiling && le_z (pos 0) (pos s.need +ℤ gain s)))

-- In range: settings valid; events ≤ 1,000,000; and the rest.
unfoldable pub in_range : Summary → Bool
in_range s = test (limits_ok s.limits) && (leb s.events most_events && (counts_ok s && (ceiling_ok s && need_ok s)))

-- the same as facts, one for each bound (`in_range_exactly`, proofs/Range.antt)
pub record InRange (s : Summary) : Type 0 where
  pub settings_valid : LimitsOk s.limits
  pub events_most : s.events ≤ most_events
  pub accrued_most : s.accrued ≤ most_amount * s.events
  pub sent_most : s.sent ≤ most_size * s.events
  pub ceiling_most : s.ceiling ≤ℤ pos s.limits.hi
  pub ceiling_gained : s.ceiling ≤ℤ (pos s.limits.hi +ℤ gain s)
  pub ceiling_least : neg_ℤ (pos (most_size * s.events)) ≤ℤ s.ceiling
  pub need_most : s.need ≤ s.limits.hi + 1
  pub ceiling_usable : s.need ≤ s.limits.hi → pos 0 ≤ℤ s.ceiling
  pub need_usable : s.need ≤ s.limits.hi → pos 0 ≤ℤ (pos s.need +ℤ gain s)
