-- `fair::Adjusted::stepped` meets its contract: the two returns are the two cases. Where a round trip has not passed, one interval more is no more than it, and fits.
-- Assumes nothing.
use mathlib.Core.Path.{refl}
use Rattle.decide.specs.Test.{passes}
use Rattle.decide.proofs.Tests.{failing}
use native.Mathlib.Omega.{arith}
use Rattle.fair.specs.Methods.{passed}
use Rattle.fair.proofs.Adjusted.stepped.Goals as goal

pub returns-then-site-self : goal.returns-then-site-self
returns-then-site-self c =
    let a = c.args in
    rw (passes (passed a.settings a.self) c.if-site-self.true) c.changed_to.ensures

pub returns : goal.returns
returns c =
    let a = c.args in
    rw (failing (passed a.settings a.self) (λ h. omega (arith, c.if-site-self.false, h))) refl
