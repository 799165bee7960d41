-- The comparison is that of the one row; a frame that fits may be pushed.
-- Assumes nothing.
use Prim.Native.Nat.{◌≤◌}
use mathlib.Core.Path.{sym}
use Rattle.queue.specs.Queue.{space_of}
use Rattle.queue.proofs.Laws.{push_needs}
use Rattle.flow.specs.Parts.{queue_of, capacity_of}
use Rattle.flow.proofs.Offer.{enter_refused, enter_taken}
use Rattle.flow.proofs.Range.{bounds_ok, capacity_most}
use Rattle.flow.proofs.Flow.enter.Goals as goal

pub returns-then-space-frame : goal.returns-then-space-frame
returns-then-space-frame c =
    let x = c.args in
    rw c.into.ensures (sym (enter_refused x.settings x.self x.line x.frame (rw c.space.ensures at c.if-space-frame.true)))

pub push-longer-requires : goal.push-longer-requires
push-longer-requires c =
    let l = c.args.line in
    let s = c.args.settings in
    let f = c.args.self in
    let o = c.requires in
    let fits : c.args.frame.size ≤ space_of (queue_of f l) (capacity_of s l) = rw c.space.ensures at c.if-space-frame.false in
    rw c.queue-queue.ensures (push_needs (o.flow.queues l) c.args.frame (bounds_ok o.settings) o.frame fits (capacity_most o.settings l))

pub returns : goal.returns
returns c =
    let x = c.args in
    rw (c.with_queue.ensures, c.push-longer.ensures, c.queue-queue.ensures)
    (sym (enter_taken x.settings x.self x.line x.frame (rw c.space.ensures at c.if-space-frame.false)))
