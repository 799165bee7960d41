use Rattle.std.proofs.Common.{◌-◌, length}
use Rattle.vectors_reader.proofs.walk.Given as goal

abbrev pub decreases-loop-item : goal.decreases-loop-item
decreases-loop-item g l = length l.bytes - l.place.at
