-- A tally that a walk can go on with has bounds that finishing and the signed ceiling ask for.
-- Assumes nothing.
use mathlib.Core.Path.{ap, ◌∙◌}
use native.Mathlib.Omega.{arith}
use Rattle.shaper.specs.Limits.{most_events}
use Rattle.tally.proofs.Laws.{within_more}
use Rattle.summary.specs.Plain.{signed_from}
use Rattle.account.proofs.Passed.{depth_max}
use Rattle.excerpt.specs.Excerpt.{with_place}
use Rattle.excerpt.proofs.ended.Goals as goal

pub finish-requires : goal.finish-requires
finish-requires c = let a = c.args in within_more a.n most_events a.t c.requires.few c.requires.within

pub signed-sum-requires : goal.signed-sum-requires
signed-sum-requires c =
    let a = c.args in
    let p = c.requires in
    let few = p.few in
    let deep = depth_max a.limits a.n a.t p in
    rw c.finish.ensures (omega arith, omega arith)

pub returns : goal.returns
returns c = ap (λ s. with_place s c.args.next) (c.signed-sum.ensures ∙ ap signed_from c.finish.ensures)
