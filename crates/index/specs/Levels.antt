-- The summaries of an index in document 02's own words: one for each 256 events, above them one for each pair, halving until one is left.
-- Assumes nothing.
use Rattle.std.specs.Prelude.{ℕ, zero, suc, ◌+◌, ◌*◌, List, [], ◌∷◌, length}
use Rattle.shaper.specs.declared.Limits.{Limits}
use Rattle.shaper.specs.declared.Event.{Event}
use Rattle.summary.specs.declared.Summary.{Summary}
use Rattle.summary.specs.Summary.{summary_of, joined}
use Rattle.index.specs.Tree.{block_events, blocks_of}
use Rattle.index.specs.Index.{piece_of}

-- one for each 256 events (the last may be short): those of so many blocks from block x on
unfoldable pub blocks_from : Limits → List Event → ℕ → ℕ → List Summary
blocks_from l es x zero = []
blocks_from l es x (suc b) = summary_of l (piece_of es (block_events * x) (block_events * (x + 1))) ∷ blocks_from l es (suc x) b

-- and above them one for each pair (an odd one alone)
unfoldable pub paired : List Summary → List Summary
paired [] = []
paired (a ∷ []) = a ∷ []
paired (a ∷ b ∷ more) = joined a b ∷ paired more

-- halving until one is left
unfoldable pub level_of : Limits → List Event → ℕ → List Summary
level_of l es zero = blocks_from l es 0 (blocks_of (length es))
level_of l es (suc k) = paired (level_of l es k)
