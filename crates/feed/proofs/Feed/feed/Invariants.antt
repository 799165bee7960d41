-- What is left of the chunk, fed from here, gives what the whole chunk gives from the start.
-- Assumes nothing.
use mathlib.Core.Path.{◌≡◌}
use lib.ListN.{drop}
use Rattle.feed.specs.Feed.{fed_of}
use Rattle.feed.proofs.Feed.feed.Given as goal

abbrev pub invariant-loop-i : goal.invariant-loop-i
invariant-loop-i l = fed_of l.next (drop l.i l.chunk) ≡ fed_of l.initial.next l.chunk
