-- What is left of the chunk, fed from here, gives what the whole chunk gives from the start.
-- Assumes nothing.
use mathlib.Core.Path.{◌≡◌}
use lib.ListN.{drop}
use Rattle.feed.specs.Feed.{fed_of}
use Rattle.feed.proofs.Feed.bytes.Given as goal

abbrev pub invariant-loop-b : goal.invariant-loop-b
invariant-loop-b l = fed_of l.next (drop l.b-index l.chunk) ≡ fed_of l.initial.next l.chunk
