use Rattle.std.proofs.Common.{◌≡◌, ◌-◌, ◌*◌, ◌≤◌, ◌<◌, length}
use Rattle.report.proofs.Filled.{Filled}
use Rattle.apart.specs.Page.{walk_of, walk_text, most_turns, passed_of}
use Rattle.apart.proofs.Quick.{Level}
use Rattle.apart.proofs.events.Given as goal

abbrev pub invariant-loop-k : goal.invariant-loop-k
invariant-loop-k l =
    (l.k ≤ l.most) × (l.most ≤ most_turns) × (0 < l.most → Level l.first l.second l.walk.first l.walk.second l.most) × (l.at ≡ l.walk.first.at)
    × (l.other ≡ l.walk.second.at) × (length l.room ≡ length l.initial.room) × (l.end ≤ 88 * l.k)
    × (passed_of l.walk l.k ≡ walk_of l.k l.a l.b l.first l.second l.walk) × Filled l.initial.room 0 (walk_text l.k l.a l.b l.first l.second l.walk) l.end l.room
