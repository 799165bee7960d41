-- A join, and one more where the repeats are odd.
-- Assumes nothing.
use native.Mathlib.Omega.{arith}
use Rattle.heartbeat.proofs.Repeats.twice.Goals as goal

pub join-requires : goal.join-requires
join-requires c = rw c.join-even.ensures (omega arith)

pub returns-then-odd : goal.returns-then-odd
returns-then-odd c = rw (c.if-odd.true, c.join.ensures, c.join-even.ensures)

pub returns : goal.returns
returns c = rw (c.if-odd.false, c.join-even.ensures)
