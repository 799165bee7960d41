use Rattle.std.proofs.Common.{◌≤◌, length}
use Rattle.console.proofs.tell.line.Given as goal

abbrev pub invariant-loop-part : goal.invariant-loop-part
invariant-loop-part g l = l.at ≤ length l.room
