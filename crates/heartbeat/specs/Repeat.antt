-- The events of a summary, so many times over: what joining it with itself comes to.
-- Assumes nothing.
use Rattle.std.specs.Prelude.{ℕ, zero, suc, ◌*◌, not, List, [], ◌∷◌, ◌++◌, ltb}
use Rattle.decide.specs.Refusal.{Fault, fault, first_of}
use Rattle.shaper.specs.declared.Event.{Event}
use Rattle.shaper.specs.Limits.{most_events}
use Rattle.summary.specs.declared.Summary.{Summary}
use Rattle.summary.specs.Answer.{Answer}
use Rattle.summary.specs.Summary.{empty_of, joined}
use Rattle.summary.specs.Range.{in_range}
use Rattle.summary.specs.Answer.{answered}

-- events so many times over, as the written-out record has them
unfoldable pub times_over : ℕ → List Event → List Event
times_over zero es = []
times_over (suc r) es = times_over r es ++ es

-- A summary joined with itself, so many times: of no repeat the empty summary, and each one more is a join.
unfoldable pub power_of : Summary → ℕ → Summary
power_of s zero = empty_of s.limits
power_of s (suc r) = joined (power_of s r) s

-- 3: the summary is outside its range. 9: repeats times events exceed 1,000,000.
abbrev pub repeat_faults : Summary → ℕ → List Fault
repeat_faults s r = fault 3 (not (in_range s)) ∷ fault 9 (ltb most_events (r * s.events)) ∷ []

unfoldable pub repeated_of : Summary → ℕ → Answer
repeated_of s r = answered (first_of (repeat_faults s r)) (power_of s r)
