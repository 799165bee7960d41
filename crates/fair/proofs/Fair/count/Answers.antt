-- `fair::Fair::count` meets its contract: each of the four counters is raised where the frame counts for it.
-- Assumes nothing.
use mathlib.Core.Bool.{and-true}
use mathlib.Core.Path.{sym}
use lib.Dec.{eqb}
use Rattle.decide.specs.Test.{test}
use Rattle.fair.proofs.Count.{unmarked}
use Rattle.fair.proofs.Fair.count.Goals as goal

pub returns-then-mark-ne1 : goal.returns-then-mark-ne1
returns-then-mark-ne1 c = let a = c.args in
    sym (unmarked a.self a.settings a.hops a.size a.origin a.mark c.if-mark-ne1.true)

pub returns : goal.returns
unfolding test
returns c = rw (
  c.raised-4.ensures,
  c.raised-3.ensures,
  c.raised-2.ensures,
  c.raised.ensures,
  c.is_beyond-beyond.ensures,
  c.if-mark-ne1.false,
  and-true (eqb c.args.origin 4),
  and-true (eqb c.args.origin 3),
)
