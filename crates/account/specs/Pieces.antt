-- A record that was cut between events, and its pieces' summaries joined along any tree.
-- Assumes nothing.
use Rattle.std.specs.Prelude.{◌≡◌, ℕ, true, List, ◌++◌}
use Rattle.shaper.specs.declared.Limits.{Limits}
use Rattle.shaper.specs.declared.Event.{Event}
use Rattle.summary.specs.Answer.{join_of, and_then, Answer}
use Rattle.record.specs.Items.{Item, written_items, unrolled, ItemsOk}
use Rattle.account.specs.Account.{summarize_of}

-- a grouping of pieces in their order: each is a record, given by its bytes
pub data Tree : Type 0 where
  piece : List ℕ → Tree
  both : Tree → Tree → Tree

-- A piece of a cut record is that record's header followed by the piece's events, in either form. The tree's pieces, in order, are a cut of these events: also inside a
-- run, which leaves a shorter run or a single tick on each side.
pub data Cuts (l : Limits) : List Event → Tree → Type 0 where
  whole : (is : List Item) (bytes : List ℕ) → ItemsOk true l is → bytes ≡ written_items l is → Cuts l (unrolled is) (piece bytes)
  parted : (xs ys : List Event) (t u : Tree) → Cuts l xs t → Cuts l ys u → Cuts l (xs ++ ys) (both t u)

-- each piece summarized from its bytes, joined along the tree
abbrev pub joined_along : Tree → Answer
joined_along (piece bytes) = summarize_of bytes
joined_along (both t u) = and_then (joined_along t) (λ a. and_then (joined_along u) (λ b. join_of a b))
