-- Pages of two windows: so many turns of a walk, and what they list.
-- Assumes nothing.
use Rattle.std.specs.Prelude.{ℕ, zero, suc, ◌+◌, ◌-◌, ◌*◌, ◌/◌, ◌≤◌, min, true, ◌&&◌, cond, List, [], ◌++◌, ◌≡◌, eqb, length, drop}
use Rattle.record.specs.Read.{Events, read_items}
use Rattle.apart.specs.declared.Side.{Side}
use Rattle.apart.specs.declared.Place.{Place}
use Rattle.apart.specs.declared.Walk.{Walk}
use Rattle.apart.specs.declared.Reached.{Reached}
use Rattle.apart.specs.declared.Begun.{Begun}
use Rattle.apart.specs.Turn.{turn_of, line_text}

-- the walk behind so many turns
unfoldable pub walk_of : ℕ → Side → Side → List ℕ → List ℕ → Walk → Walk
walk_of zero a b w v walk = walk
walk_of (suc k) a b w v walk = walk_of k a b w v (turn_of a b w v walk).walk

-- what they list
unfoldable pub walk_text : ℕ → Side → Side → List ℕ → List ℕ → Walk → List ℕ
walk_text zero a b w v walk = []
walk_text (suc k) a b w v walk = line_text walk.position (turn_of a b w v walk).line ++ walk_text k a b w v (turn_of a b w v walk).walk

-- both, where the text is written from a place on
abbrev pub reached_of : ℕ → Side → Side → List ℕ → List ℕ → Walk → ℕ → Reached
reached_of k a b w v walk at = record { walk = walk_of k a b w v walk; end = at + length (walk_text k a b w v walk) }

-- the turns of a page
abbrev pub most_turns : ℕ
most_turns = 5000

abbrev pub page_of : Side → Side → List ℕ → List ℕ → Walk → Reached
page_of a b w v walk = record { walk = walk_of most_turns a b w v walk; end = length (walk_text most_turns a b w v walk) }

-- ---- the quick way

-- how many events of 6 bytes may stand from both places on; none where an item has begun to go by
unfoldable pub level_of : List ℕ → List ℕ → Place → Place → ℕ
level_of w v p q = cond (eqb p.gone 0 && eqb q.gone 0) (min (min ((length w - p.at) / 6) ((length v - q.at) / 6)) most_turns) 0

-- the walk behind so many events of each window
abbrev pub passed_of : Walk → ℕ → Walk
passed_of walk k =
    record {
      first = record { at = walk.first.at + 6 * k; gone = walk.first.gone };
      second = record { at = walk.second.at + 6 * k; gone = walk.second.gone };
      position = walk.position + k;
    }

-- the first turns of a page
pub record Begins (a b : Side) (w v : List ℕ) (walk : Walk) (r : Begun) : Type 0 where
  pub few : r.turns ≤ most_turns
  pub goes : r.walk ≡ walk_of r.turns a b w v walk
  pub near : r.walk.position ≡ walk.position + r.turns
  pub fills : r.end ≡ length (walk_text r.turns a b w v walk)
  pub short : r.end ≤ 88 * r.turns

-- ---- what stands from a place on

-- The events of a file's bytes from a place on, where `left` more may come, or the fault; any byte after the last of them gives `late`.
abbrev pub from_place : ℕ → ℕ → ℕ → List ℕ → Place → Events
from_place late mtu left xs p = read_items true late mtu left p.gone (drop p.at xs)
