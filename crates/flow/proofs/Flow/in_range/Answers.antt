-- Five tests, joined from the left, are their conjunction: `chain`.
-- Assumes nothing.
use mathlib.Core.List.{[], ◌∷◌}
use Rattle.queue.specs.Range.{queue_ok}
use Rattle.decide.proofs.Chain.{chain}
use Rattle.credits.specs.Range.{credits_ok}
use Rattle.flow.specs.Parts.{bounds_of}
use Rattle.flow.specs.Range.{stage_ok, flow_ok}
use Rattle.flow.proofs.Flow.in_range.Goals as goal

pub returns : goal.returns
unfolding flow_ok
returns c =
    let x = c.args in
    let f = x.self in
    let s = x.settings in
    rw (c.stage_ok.ensures, c.in_range-4.ensures, c.in_range-3.ensures, c.in_range-2.ensures, c.in_range.ensures, c.bounds-bounds.ensures)
    (chain
    (credits_ok s f.credits)
    (queue_ok (bounds_of s) s.queues.control f.control
    ∷ queue_ok (bounds_of s) s.queues.primary f.primary
    ∷ queue_ok (bounds_of s) s.queues.secondary f.secondary
    ∷ stage_ok (bounds_of s) f.stage
    ∷ []))
