-- `fair::adjusting::entry_rate` meets its contract: the smaller of the rate shown and of unreservedRate, which fits.
-- Assumes nothing.
use mathlib.Core.Path.{◌≡◌, ◌∙◌, ap}
use Prim.Native.Nat.{ℕ, min}
use Rattle.fair.proofs.adjusting.entry_rate.Goals as goal

-- the answer by name, so that one which is cut to another number fails at that number
pub returns : goal.returns
returns c =
    let unreserved : ℕ = c.args.settings.fairness.unreserved in
    let said : c.lesser.result ≡ min c.shown-shown.result unreserved = c.lesser.ensures in
    said ∙ ap (λ (n : ℕ). min n unreserved) c.shown-shown.ensures
