-- `settings::Queues::in_range` meets its contract. Each capacity is tested by one function, the secondary's from twice the mtu on.
-- Assumes nothing.
use Rattle.decide.specs.Test.{test}
use mathlib.Core.Bool.{and_assoc}
use mathlib.Core.Path.{refl}
use Rattle.settings.proofs.Queues.in_range.Goals as goal

pub returns : goal.returns
unfolding test
returns c =
    simp
    (c.capacity_ok-3.ensures, c.capacity_ok-2.ensures, c.capacity_ok.ensures, and_assoc)
    refl
