-- Hops and the ring.
-- Assumes nothing.
use Rattle.std.specs.Prelude.{ℕ}
use Rattle.decide.specs.Test.{Test, ◌<?◌}

-- A fairness frame, a transit frame or a client frame whose hops reach the number of stations or more is turned down (document 02, A5). Of any other the
-- hops are within the ring.
abbrev pub in_ring : ℕ → ℕ → Test
in_ring stations hops = hops <? stations
