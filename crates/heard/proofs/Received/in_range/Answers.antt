-- `heard::Received::in_range` meets its contract: the tests stand in the order of the definition.
-- Assumes nothing.
use mathlib.Core.Bool.{and_assoc}
use Rattle.decide.specs.Test.{test}
use Rattle.heard.proofs.Received.in_range.Goals as goal

pub returns : goal.returns
unfolding test
returns c = rw (c.ttl_in_ring.ensures, c.ttl_ok.ensures) (simp and_assoc)
