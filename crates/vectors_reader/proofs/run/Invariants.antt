-- The bytes so far lie within the room. Assumes nothing.
use Rattle.std.proofs.Common.{◌≤◌}
use Rattle.vectors_reader.proofs.run.Given as goal

abbrev pub invariant-loop-word : goal.invariant-loop-word
invariant-loop-word g l = l.count ≤ 4096
