-- The frame is the one that the table selects, and is counted.
-- Assumes nothing.
use mathlib.Core.Path.{ap, ◌∙◌}
use Rattle.selection.specs.declared.Pick as selection
use Rattle.fair.specs.declared.Fair.{Fair}
use Rattle.station.specs.declared.Pick.{Pick}
use Rattle.station.proofs.Select.{counting}
use Rattle.station.proofs.picked.Goals as goal

-- this is picked, and leaves the fairness state so
abbrev given : selection.Pick → Fair → Pick
given p f = record { origin = p.origin; frame = p.frame; credits = p.credits; stage = p.stage; fair = f }

pub returns : goal.returns
returns c =
    let a = c.args in
    ap (given c.pick-out.result) c.count-counted.ensures ∙ ap (counting a.settings a.fair) c.pick-out.ensures
