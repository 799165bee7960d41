-- A queue that says to hold no frame takes the short way, by `vacant`; another is scanned.
-- Assumes nothing.
use mathlib.Core.Bool.{and_assoc}
use mathlib.Core.Path.{◌≡◌}
use borrow.Author.Rules.{rules}
use lib.ListN.{length}
use Rattle.decide.specs.Test.{test}
use Rattle.queue.proofs.Range.{vacant}
use Rattle.queue.proofs.Queue.in_range.Goals as goal

pub returns-then-self-eq0 : goal.returns-then-self-eq0
unfolding test
returns-then-self-eq0 c =
    let a = c.args in
    let q = a.self in
    let n : length q.slots ≡ 128 = search rules in
    let z : q.count ≡ 0 = search rules in
    rw c.all_empty.ensures (simp and_assoc (vacant a.bounds a.capacity q n z))
