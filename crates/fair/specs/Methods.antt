-- Local congestion and localFairRate at an interval, by the method that the settings choose: the aggressive one of document 01, and the conservative one
-- of document 02, A7. Assumes nothing.
use Rattle.std.specs.Prelude.{ℕ, ◌+◌, ◌-◌, min, cond}
use Rattle.decide.specs.Test.{Test, test, ◌≤?◌, ◌<?◌, ◌≡?◌}
use Rattle.rates.specs.Rates.{shown_of, ramped_of, reduced_of}
use Rattle.settings.specs.declared.Settings.{Settings}
use Rattle.settings.specs.Range.{aggressive}
use Rattle.fair.specs.Four.{Stored}
use Rattle.fair.specs.declared.Adjusted.{Adjusted}

-- Locally congested: secondary bytes > low threshold.
abbrev pub local_test : Settings → ℕ → Test
local_test s held = s.queues.threshold <? held

-- ---- the aggressive method

-- localFairRate: lpAddRate, as it is shown, if locally congested, else unreservedRate. From the new stored numbers and the bytes in the secondary queue; what was
-- adjusted before is not looked at, and the intervals since the last change, which the other method counts, stay.
unfoldable pub aggressive_of : Settings → Adjusted → Stored → ℕ → Adjusted
aggressive_of s old lp held =
    cond (test (local_test s held))
    (record { congested = 1; local = shown_of s.fairness.lp lp.add; since = old.since })
    (record { congested = 0; local = s.fairness.unreserved; since = old.since })

-- ---- the conservative method

-- a fairness round trip has passed since the last change: it ends with this interval
abbrev pub passed : Settings → Adjusted → Test
passed s old = s.site.trip ≤? old.since + 1

-- the distance to unreservedRate is less than rampUp
abbrev pub near : Settings → Adjusted → Test
near s old = s.fairness.unreserved - old.local <? s.fairness.ramp

-- lpAddRate, as it is shown, cut to unreservedRate
abbrev pub entry_rate : Settings → Stored → ℕ
entry_rate s lp = min (shown_of s.fairness.lp lp.add) s.fairness.unreserved

-- congested, with a localFairRate that changed now
abbrev pub changed_to : ℕ → Adjusted
changed_to local = record { congested = 1; local = local; since = 0 }

-- congested, with the localFairRate as it was, and one interval more since it changed
abbrev pub unchanged : Adjusted → Adjusted
unchanged old = record { congested = 1; local = old.local; since = old.since + 1 }

-- what an interval does: one of six
pub data Row : Type 0 where
  enters : Row
  rests : Row
  lowers : Row
  leaves : Row
  raises : Row
  waits : Row

-- Enter congestion; while congested and a fairness round trip has passed since the last change, reduce localFairRate; once document 01's test is false, leave
-- congestion if the distance to unreservedRate is less than rampUp, else after the same time raise it.
unfoldable pub row_of : Settings → Adjusted → ℕ → Row
row_of s old held =
    cond (test (old.congested ≡? 0))
    (cond (test (local_test s held)) enters rests)
    (cond (test (local_test s held))
    (cond (test (passed s old)) lowers waits)
    (cond (test (near s old)) leaves (cond (test (passed s old)) raises waits)))

-- Enter at lpAddRate, cut to unreservedRate; reduce localFairRate by its rampDn-th part, rounded down; leave at unreservedRate; raise it by the
-- rampUp-th part of that distance, rounded down. Each counts as a change, a step of 0 too. Until it leaves, the station counts as locally congested.
unfoldable pub row_gives : Row → Settings → Adjusted → Stored → Adjusted
row_gives enters s old lp = changed_to (entry_rate s lp)
row_gives rests s old lp = old
row_gives lowers s old lp = changed_to (reduced_of old.local s.site.down)
row_gives leaves s old lp = record { congested = 0; local = s.fairness.unreserved; since = 0 }
row_gives raises s old lp = changed_to (ramped_of old.local s.fairness.unreserved s.fairness.ramp)
row_gives waits s old lp = unchanged old

-- what counts as a change: entry, leaving, and each step, one of 0 too
abbrev pub Changes : Row → Type 0
Changes enters = Unit {0}
Changes rests = ⊥
Changes lowers = Unit {0}
Changes leaves = Unit {0}
Changes raises = Unit {0}
Changes waits = ⊥

-- the changes that wait for a round trip: all but leaving and entering
abbrev pub Steps : Row → Type 0
Steps enters = ⊥
Steps rests = ⊥
Steps lowers = Unit {0}
Steps leaves = ⊥
Steps raises = Unit {0}
Steps waits = ⊥

abbrev pub conservative_of : Settings → Adjusted → Stored → ℕ → Adjusted
conservative_of s old lp held = row_gives (row_of s old held) s old lp

-- ---- by the method

unfoldable pub adjust_of : Settings → Adjusted → Stored → ℕ → Adjusted
adjust_of s old lp held = cond (test (aggressive s.site)) (aggressive_of s old lp held) (conservative_of s old lp held)
