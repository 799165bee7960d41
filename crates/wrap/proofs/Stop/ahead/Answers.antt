-- `Stop::ahead` meets its contract: the link ahead is one of the ring, so it has a bit.
-- Assumes nothing.
use mathlib.Core.Path.{ap}
use native.Mathlib.Omega.{arith}
use Rattle.ring.specs.Links.{usable}
use Rattle.ring.proofs.Around.{link_of_lt}
use Rattle.wrap.proofs.Stop.ahead.Goals as goal

pub overflow_shr-result : goal.overflow_shr-result
overflow_shr-result c =
    let a = c.args in
    let h = link_of_lt a.way a.self.stations a.self.at a.self.stands.station in
    omega (arith, c.link.ensures)

pub returns : goal.returns
unfolding usable
returns c = ap (usable c.args.links) c.link.ensures
