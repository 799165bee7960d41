-- How the entries of a node are written: what is known before, and what it comes to.
-- Assumes nothing.
use Rattle.std.specs.Prelude.{ℕ, ◌+◌, ◌*◌, ◌≤◌, ◌<◌, min, true, List, ◌≡◌, length, Ok, Err}
use Rattle.shaper.specs.declared.Limits.{Limits}
use Rattle.summary.specs.declared.Summary.{Summary}
use Rattle.summary.specs.Answer.{Answer, join_of}
use Rattle.excerpt.specs.declared.Place.{Place}
use Rattle.roll.specs.Steps.{Reads}
use Rattle.index.specs.declared.Filled.{Filled}
use Rattle.index.specs.Tree.{blocks_of, top_level, size_of, from_of, to_of}
use Rattle.index.specs.Index.{events_in, place_of, node_summary}

-- a record that was read whole, n events, a node of it that has some of them, the place of its first, and room for its entries
pub record Filling (l : Limits) (xs : List ℕ) (n k size x : ℕ) (p : Place) (room : List ℕ) : Type 0 where
  pub reads : Reads true xs l
  pub counts : n ≡ length (events_in xs)
  pub sized : size ≡ size_of k
  pub low : k ≤ top_level
  pub some : from_of x < n
  pub first : p ≡ place_of xs (from_of x)
  pub roomy : 80 * min (x + size_of k) (blocks_of n) ≤ length room + 40

-- the same of a block
abbrev pub FillsBlock : Limits → List ℕ → ℕ → ℕ → Place → List ℕ → Type 0
FillsBlock l xs n x p room = Filling l xs n 0 1 x p room

-- what a node comes to: its summary, and the place behind its last event
unfoldable pub filled_of : Limits → List ℕ → ℕ → ℕ → Filled
filled_of l xs k x = record { sum = node_summary l (events_in xs) k x; next = place_of xs (to_of (length (events_in xs)) k x) }

-- two summaries joined; a refusal, which none of one record is, would leave the first
abbrev pub both_by : Summary → Answer → Summary
both_by a (Ok s) = s
both_by a (Err r) = a

unfoldable pub both_of : Summary → Summary → Summary
both_of a b = both_by a (join_of a b)
