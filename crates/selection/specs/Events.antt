-- What a selection is to each shaper: one send per charge. It is told from its answer and the flow as it was but for its credits.
-- Assumes nothing.
use Rattle.std.specs.Prelude.{ℕ, cond, not, ◌&&◌, List, [], ◌∷◌, eqb}
use Rattle.decide.specs.Test.{test}
use Rattle.shaper.specs.declared.Event.{Event}
use Rattle.settings.specs.declared.Settings.{Settings}
use Rattle.credits.specs.declared.Which.{Which}
use Rattle.credits.specs.declared.Which.TheVariants.{M, D}
use Rattle.credits.specs.Which.{sends}
use Rattle.flow.specs.declared.Flow.{Flow}
use Rattle.selection.specs.declared.Selected.{Selected}
use Rattle.selection.specs.Select.{needy}

-- control (M charged); secondary, if mtu > its space (nothing charged); secondary, if D permits (D charged)
abbrev pub charges_of : Settings → Flow → ℕ → List Which
charges_of s f origin = cond (eqb origin 1) (M ∷ []) (cond (eqb origin 3 && not (test (needy s f))) (D ∷ []) [])

abbrev pub select_events : Settings → Flow → Selected → Which → List Event
select_events s f r = sends (charges_of s f r.origin) r.frame.size
