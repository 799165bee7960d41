-- A tally: a summary in the making, and the summary that it stands for. How it counts is free; what binds it is the law that a step is the paper's join
-- with one event's summary (`step_joined`, proofs/Laws.antt), or with that of a run of equal ticks (`run_joined`, proofs/Runs.antt).
-- Assumes nothing.
use Rattle.std.specs.Prelude.{ℕ, ◌+◌, ◌-◌, ◌*◌, ◌≤◌, min, max, cond, eqb, leb}
use Rattle.shaper.specs.declared.Limits.{Limits}
use Rattle.shaper.specs.Limits.{most_amount, most_events}
use Rattle.plain.specs.declared.Plain.{Plain}
use Rattle.plain.specs.Range.{Sound}
use Rattle.tally.specs.declared.Tally.{Tally}

-- ---- the tally

-- the level at the start, 2^40: above what a million events take off it, and above every credit
abbrev pub base : ℕ
base = 1099511627776

-- the tally of no event: a low of loLimit + 1 above the level is a need of 0
abbrev pub start_of : ℕ → Tally
start_of lo = record { accrued = 0; level = base; peak = base; low = base + lo + 1 }

-- the first number for a send, the second for a tick
unfoldable pub pick_of : ℕ → ℕ → ℕ → ℕ
pick_of k send tick = cond (eqb k 3) send tick

-- how far below hiLimit the event's own cut lies
unfoldable pub fall_of : ℕ → ℕ → ℕ
fall_of k rise = cond (eqb k 2) rise 0

-- the level that a send is held against, or 0 where the ceiling is at most loLimit
unfoldable pub bar_of : ℕ → ℕ → ℕ → ℕ
bar_of rise depth level = cond (leb rise depth) 0 level

-- the tally after one event more, whatever it holds, or after a run of equal ticks, v what they bring in all; rise is hiLimit − loLimit
abbrev pub step_of : ℕ → ℕ → ℕ → Tally → Tally
step_of rise k v t =
    record {
      accrued = pick_of k t.accrued (t.accrued + v);
      level = pick_of k (t.level - v) (t.level + v);
      peak = max t.peak (pick_of k (t.level - v) (t.level + v) + fall_of k rise);
      low = pick_of k (min (bar_of rise (t.peak - t.level) t.level) t.low) t.low;
    }

-- ---- what it stands for

-- the summary of the n events that were tallied
abbrev pub plain_at : Limits → ℕ → Tally → Plain
plain_at l n t =
    record {
      limits = l;
      events = n;
      accrued = t.accrued;
      sent = t.accrued + base - t.level;
      depth = t.peak - t.level;
      need = min (base + l.lo + 1 - t.low) (l.hi + 1);
    }

-- the bounds of a tally of at most n events, whatever they hold: up to a million no sum wraps and no difference falls below 0
pub record Within (n : ℕ) (t : Tally) : Type 0 where
  pub accrued_max : t.accrued ≤ most_amount * n
  pub level_min : base ≤ t.level + most_amount * n
  pub level_max : t.level ≤ base + t.accrued
  pub peak_min : t.level ≤ t.peak
  pub peak_max : t.peak ≤ base + 1048576 + most_amount * n

-- a tally with which a walk can go on: n events are counted, and their summary is in range
pub record Ready (l : Limits) (n : ℕ) (t : Tally) : Type 0 where
  pub few : n ≤ most_events
  pub within : Within n t
  pub sound : Sound (plain_at l n t)
