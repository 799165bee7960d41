use Rattle.std.proofs.Common.{◌≡◌, ◌+◌, ◌-◌, ◌*◌, ◌≤◌, length}
use Rattle.record.specs.Items.{most_of_run}
use Rattle.report.proofs.Filled.{Filled}
use Rattle.apart.specs.Page.{walk_of, walk_text}
use Rattle.apart.proofs.walk_on.Given as goal

abbrev pub invariant-loop-k : goal.invariant-loop-k
invariant-loop-k l =
    (l._k ≤ l.most) × (length l.room ≡ length l.initial.room) × (l.now.position ≤ l.fn.walk.position + most_of_run * l._k) × (l.end ≤ l.at + 88 * l._k)
    × (l.now ≡ walk_of l._k l.a l.b l.first l.second l.fn.walk) × Filled l.initial.room l.at (walk_text l._k l.a l.b l.first l.second l.fn.walk) l.end l.room
