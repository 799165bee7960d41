-- A part: up to eight events as seen from where they begin. What binds it is one law: a part that grows by an event, applied to a tally, is that tally's step
-- (`applied_grown`, proofs/Applied.antt).
-- Assumes nothing.
use Rattle.std.specs.Prelude.{ℕ, zero, suc, ◌+◌, ◌-◌, ◌*◌, ◌/◌, ◌%◌, ◌≤◌, ◌<◌, min, max, Bool, true, ◌&&◌, cond, ◌⊎◌, ◌≡◌, get_or}
use Rattle.shaper.specs.Limits.{most_amount}
use Rattle.tally.specs.declared.Tally.{Tally}
use Rattle.tally.specs.declared.Part.{Part}
use Rattle.tally.specs.declared.Parts.{Parts}
use Rattle.tally.specs.Tally.{bar_of}

-- ---- the part

-- how far above hiLimit − loLimit the level of a part begins, 2^20: above what eight events take off it
abbrev pub room : ℕ
room = 1048576

-- the low of a part in which nothing was sent: above every level
abbrev pub unsent : ℕ
unsent = 16777216

-- the part of no event; rise is hiLimit − loLimit
abbrev pub none_part : ℕ → Part
none_part rise = record { total = 0; level = rise + room; top = 0; low = unsent; good = true }

-- The part after one event more, whatever it holds. Top is the largest level behind an event, less rise unless it was an idle tick's: a send at this level or below comes
-- too late for every credit. So it is held against `bar_of level top level`, which is 0 there and else its level.
abbrev pub grow_of : ℕ → Bool → Bool → ℕ → Bool → Part → Part
grow_of rise send idle v good p =
    record {
      total = p.total + v;
      level = cond send (p.level - v) (p.level + v);
      top = max p.top (cond send (p.level - v) (p.level + v) - cond idle 0 rise);
      low = cond send (min (bar_of p.level p.top p.level) p.low) p.low;
      good = p.good && good;
    }

-- room for an event more: no sum wraps and no difference falls below 0
pub record Roomy (rise : ℕ) (p : Part) : Type 0 where
  pub level_min : rise + most_amount ≤ p.level
  pub level_max : p.level ≤ 8388608
  pub top_max : p.top ≤ 8388608
  pub low_max : p.low ≤ unsent
  pub total_max : p.total ≤ 8388608

-- the bounds of a part of n events, whatever they hold
pub record PartWithin (rise n : ℕ) (p : Part) : Type 0 where
  pub total_max : p.total ≤ most_amount * n
  pub level_min : rise + room ≤ p.level + p.total
  pub level_max : p.level ≤ rise + room + p.total
  pub top_max : p.top ≤ rise + room + most_amount * n
  pub low_max : p.low ≤ unsent
  -- each number goes onto the level or off it
  pub even : (p.total + p.level + rise) % 2 ≡ 0

-- ---- what it makes of a tally

-- The tally after the events of a part: half of what its numbers and its level's gain come to was accrued. The part's low is held against the tally's peak, as a send is
-- against the top within a part: at the peak less rise, or below, it comes too late.
abbrev pub applied_to : ℕ → Tally → Part → Tally
applied_to rise t p =
    record {
      accrued = t.accrued + (p.total + p.level - (rise + room)) / 2;
      level = t.level + p.level - (rise + room);
      peak = max t.peak (t.level + p.top - room);
      low = min (bar_of (t.level + p.low) (t.peak + room) (t.level + p.low - (rise + room))) t.low;
    }

-- and after n parts, one behind the other
unfoldable pub applied_by : ℕ → Tally → (ℕ → Part) → ℕ → Tally
applied_by rise t ps zero = t
applied_by rise t ps (suc n) = applied_to rise (applied_by rise t ps n) (ps n)

-- a tally that a part of no event leaves as it is: its low is near its level, and so is its peak unless no credit permits what was sent
pub record Steady (rise : ℕ) (t : Tally) : Type 0 where
  pub low_near : t.low ≤ t.level + most_amount + 2
  pub peak_near : (t.low ≡ 0) ⊎ (t.peak ≤ t.level + rise + most_amount)

-- ---- parts side by side

-- the numbers of the first n parts' events
unfoldable pub total_of : (ℕ → Part) → ℕ → ℕ
total_of ps zero = 0
total_of ps (suc n) = total_of ps n + (ps n).total

-- none of them has a fault
unfoldable pub good_of : (ℕ → Part) → ℕ → Bool
good_of ps zero = true
good_of ps (suc n) = good_of ps n && (ps n).good

-- numbers of parts, whatever their events hold: no sum wraps
pub record PartsFit (q : Parts) : Type 0 where
  pub levels : (j : ℕ) → j < 8 → get_or q.levels j 0 ≤ 8388608
  pub tops : (j : ℕ) → j < 8 → get_or q.tops j 0 ≤ 8388608
  pub lows : (j : ℕ) → j < 8 → get_or q.lows j 0 ≤ unsent

-- one of the eight, as far as they tell: their totals are one number
abbrev pub lane_of : Parts → ℕ → Part
lane_of q j = record { total = 0; level = get_or q.levels j 0; top = get_or q.tops j 0; low = get_or q.lows j 0; good = true }

-- the tally after them (`over_applied`: of parts in a row it is that after each)
abbrev pub over_of : ℕ → Tally → Parts → Tally
over_of rise t q =
    record {
      accrued = t.accrued + (q.total + (applied_by rise t (lane_of q) 8).level - t.level) / 2;
      level = (applied_by rise t (lane_of q) 8).level;
      peak = (applied_by rise t (lane_of q) 8).peak;
      low = (applied_by rise t (lane_of q) 8).low;
    }

-- the first n parts of a row stand side by side
pub record Lanes (rise : ℕ) (q : Parts) (ps : ℕ → Part) (n : ℕ) : Type 0 where
  pub levels : (j : ℕ) → j < n → get_or q.levels j 0 ≡ (ps j).level
  pub tops : (j : ℕ) → j < n → get_or q.tops j 0 ≡ (ps j).top
  pub lows : (j : ℕ) → j < n → get_or q.lows j 0 ≡ (ps j).low
  pub total : q.total ≡ total_of ps n
  pub within : (j : ℕ) → j < n → PartWithin rise 8 (ps j)
  pub good : q.good ≡ good_of ps n
