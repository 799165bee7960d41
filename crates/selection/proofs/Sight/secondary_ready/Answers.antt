-- A frame is held, and D lacks nothing: it permits.
-- Assumes nothing.
use mathlib.Core.Path.{sym}
use Rattle.decide.specs.Test.{test}
use Rattle.shaper.proofs.Short.{permits_by}
use Rattle.selection.proofs.Sight.secondary_ready.Goals as goal

pub returns : goal.returns
unfolding test
returns c =
    let x = c.args in
    rw (c.ask-short.ensures, c.holds_frame-holds.ensures, sym (permits_by x.self.credits.d x.settings.shapers.d.lo))
