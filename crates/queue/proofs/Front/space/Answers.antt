-- By whether all slots are occupied.
-- Assumes nothing.
use Prim.Native.Nat.{◌<◌, ◌≤◌}
use borrow.Author.Tests.{le-ltb, lt-ltb}
use borrow.Author.Rules.{rules}
use Rattle.queue.specs.Queue.{space_of}
use Rattle.queue.proofs.Front.space.Goals as goal

pub returns-then-self-ge128 : goal.returns-then-self-ge128
unfolding space_of
returns-then-self-ge128 c =
    let q = c.args.self in
    let p : 128 ≤ q.count = search rules in
    rw (le-ltb q.count 128 p)

pub returns : goal.returns
unfolding space_of
returns c =
    let q = c.args.self in
    let p : q.count < 128 = search rules in
    rw (lt-ltb q.count 128 p) c.less.ensures
