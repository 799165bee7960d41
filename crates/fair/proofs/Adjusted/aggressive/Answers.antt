-- `fair::Adjusted::aggressive` meets its contract: the two returns are the two cases of the definition.
-- Assumes nothing.
use mathlib.Core.Path.{sym, ◌∙◌}
use native.Mathlib.Omega.{arith}
use Rattle.fair.proofs.Methods.{aggressive_congested, aggressive_free}
use Rattle.fair.proofs.Adjusted.aggressive.Goals as goal

pub overflow_cast-local : goal.overflow_cast-local
overflow_cast-local c = omega (arith, c.shown-local.ensures, c.requires.add_most)

pub returns-then-local_test : goal.returns-then-local_test
returns-then-local_test c = let a = c.args in
    rw c.shown-local.ensures
    (sym (aggressive_congested a.settings a.self a.smoothed a.held (sym c.local_test.ensures ∙ c.if-local_test.true)))

pub returns : goal.returns
returns c = let a = c.args in
    sym (aggressive_free a.settings a.self a.smoothed a.held (sym c.local_test.ensures ∙ c.if-local_test.false))
