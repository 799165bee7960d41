-- Credits and stage are those that are seen: `front_picked`.
-- Assumes nothing.
use mathlib.Core.Path.{sym}
use Rattle.selection.proofs.Picking.{front_picked}
use Rattle.selection.proofs.Sight.goes.Goals as goal

pub returns : goal.returns
returns c =
    let x = c.args in
    rw (c.origin.ensures, c.first-frame.ensures, c.front-front.ensures) (sym (front_picked x.self x.self.credits x.line))
