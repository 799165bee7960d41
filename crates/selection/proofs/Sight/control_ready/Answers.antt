-- Where the queue holds no frame the first test fails; else the other three, joined from the left, are their conjunction: `chain`.
-- Assumes nothing.
use Prim.Native.Nat.{ℕ}
use mathlib.Core.Bool.{Bool, true, ◌&&◌}
use mathlib.Core.List.{[], ◌∷◌}
use mathlib.Core.Path.{◌≡◌, sym, ap, ◌∙◌}
use lib.Dec.{leb, eqb}
use Rattle.decide.specs.Test.{test, ◌≤?◌, ◌<?◌, left, denied}
use Rattle.shaper.specs.Credit.{permits}
use Rattle.shaper.proofs.Short.{permits_by}
use Rattle.queue.specs.declared.Frame.{Frame}
use Rattle.queue.specs.Queue.{first_frame, space_of}
use Rattle.settings.specs.declared.Settings.{Settings}
use Rattle.flow.specs.declared.Flow.{Flow}
use Rattle.selection.specs.Select.{control_ready}
use Rattle.decide.proofs.Chain.{chain}
use Rattle.decide.proofs.Tests.{failing}
use Rattle.selection.specs.Pick.{seen_in}
use Rattle.std.proofs.lemmas.Bool.{not_from_false, not_from_true}
use Rattle.selection.proofs.Sight.control_ready.Goals as goal

-- the tests of a queue that holds a frame, of what was asked
ready : (s : Settings) (f : Flow) {permitted : Bool} {size primary secondary : ℕ} → test (0 <? f.control.count) ≡ true → size ≡ (first_frame f.control).size
    → primary ≡ space_of f.primary s.queues.primary → secondary ≡ space_of f.secondary s.queues.secondary
    → permitted ≡ permits f.credits.m s.shapers.m.lo
    → ((leb size primary && leb size secondary) && permitted) ≡ test (control_ready s f)
unfolding test
ready s f h z p q m =
    rw (h, z, p, q, m)
    (chain
    ((first_frame f.control).size ≤? space_of f.primary s.queues.primary)
    (((first_frame f.control).size ≤? space_of f.secondary s.queues.secondary) ∷ (s.shapers.m.lo <? f.credits.m) ∷ []))

pub returns-then-not-holds_frame : goal.returns-then-not-holds_frame
unfolding test
returns-then-not-holds_frame c =
    let x = c.args in
    sym (failing (control_ready x.settings (seen_in x.self)) (λ h. denied (0 <? x.self.control.count) c.holds_frame.ensures (not_from_false c.holds_frame.result c.if-not-holds_frame.true) h.0))

pub returns : goal.returns
unfolding test
returns c =
    let x = c.args in
    ready
    x.settings
    (seen_in x.self)
    (left (0 <? x.self.control.count) c.holds_frame.ensures (not_from_true c.holds_frame.result c.if-not-holds_frame.false))
    (ap (λ (y : Frame). y.size) c.first-first.ensures)
    c.space-primary.ensures
    c.space-secondary.ensures
    (ap (λ (short : ℕ). eqb short 0) c.ask-short.ensures ∙ sym (permits_by x.self.credits.m x.settings.shapers.m.lo))
