-- The range of a summary by natural numbers. What compares the ceiling or the gain is stated with the subtrahend on the other side.
-- Assumes nothing.
use Rattle.std.specs.Prelude.{ℕ, ◌+◌, ◌*◌, ◌≤◌}
use Rattle.decide.specs.Test.{Test, Holds, ◌≤?◌, ◌<?◌, ◌≡?◌, ◌∧?◌, ◌∨?◌}
use Rattle.shaper.specs.declared.Event.{Event}
use Rattle.shaper.specs.Limits.{limits_ok, same_limits, most_size, most_amount, most_events}
use Rattle.shaper.specs.Kind.{kind_of}
use Rattle.plain.specs.declared.Plain.{Plain}

-- if need ≤ hiLimit, ceiling ≥ 0 and need + gain ≥ 0
abbrev pub plain_usable : Plain → Test
plain_usable s = s.limits.hi <? s.need ∨? (s.depth ≤? s.limits.hi ∧? s.sent ≤? s.need + s.accrued)

-- accrued ≤ 65,535 × events; sent ≤ 9,216 × events; ceiling ≥ −9,216 × events, ≤ hiLimit + gain; need 0 to hiLimit+1
abbrev pub plain_bounded : Plain → Test
plain_bounded s =
    s.accrued ≤? most_amount * s.events
    ∧? s.sent ≤? most_size * s.events
    ∧? s.depth ≤? s.limits.hi + most_size * s.events
    ∧? s.sent ≤? s.accrued + s.depth
    ∧? s.need ≤? s.limits.hi + 1

-- settings valid; events ≤ 1,000,000
abbrev pub plain_range : Plain → Test
plain_range s = limits_ok s.limits ∧? s.events ≤? most_events ∧? plain_bounded s ∧? plain_usable s

-- in range, but for the number of events: what a list of any length has
abbrev pub Sound : Plain → Type 0
Sound s = Holds (limits_ok s.limits ∧? plain_bounded s ∧? plain_usable s)

-- settings agree
abbrev pub Same : Plain → Plain → Type 0
Same a b = Holds (same_limits a.limits b.limits)

-- what follows of each field alone: the sums of a join fit 64 bits
pub record Small (s : Plain) : Type 0 where
  pub small_hi : s.limits.hi ≤ 1048576
  pub small_events : s.events ≤ most_events
  pub small_accrued : s.accrued ≤ most_amount * most_events
  pub small_sent : s.sent ≤ most_size * most_events
  pub small_depth : s.depth ≤ 1048576 + most_size * most_events
  pub small_need : s.need ≤ 1048577

-- how many equal events an item of a record may stand for: at least one, and of sends just one
abbrev pub count_ok : Event → ℕ → Test
count_ok e count = 1 ≤? count ∧? (count ≡? 1 ∨? kind_of e <? 3)
