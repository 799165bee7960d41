-- `ring::tie` meets its contract: it tests what the definition tests.
-- Assumes nothing.
use mathlib.Core.Path.{sym}
use Rattle.ring.proofs.Rows.{tie_lower, tie_otherwise}
use Rattle.ring.proofs.tie.Goals as goal

pub returns-then-own-target : goal.returns-then-own-target
returns-then-own-target c = sym (tie_lower c.args.own c.args.target c.if-own-target.true)

pub returns-else-own-target : goal.returns-else-own-target
returns-else-own-target c = sym (tie_otherwise c.args.own c.args.target c.if-own-target.false)
