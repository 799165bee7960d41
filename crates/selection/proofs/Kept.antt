-- A selection keeps the range: a queue by the law of taking, credits by those of events; an empty stage is in range.
-- Assumes nothing.
use mathlib.Core.Bool.{true}
use mathlib.Core.List.{[], ◌∷◌}
use mathlib.Core.Logic.{inl}
use mathlib.Core.Path.{◌≡◌, refl}
use native.Mathlib.Omega.{arith}
use borrow.Author.Tests.{lt-ltb}
use Rattle.decide.specs.Test.{Holds, facts}
use Rattle.queue.specs.Queue.{taken, holds_frame}
use Rattle.queue.specs.Queue as queue
use Rattle.queue.proofs.Laws.{take_ok, tight_holds}
use Rattle.settings.specs.declared.Settings.{Settings}
use Rattle.settings.specs.Range.{SettingsOk}
use Rattle.credits.specs.declared.Which.TheVariants.{M, D}
use Rattle.credits.specs.Which.{sends}
use Rattle.flow.specs.declared.Flow.{Flow}
use Rattle.flow.specs.declared.Line.{Line}
use Rattle.flow.specs.declared.Line.TheVariants.{Control, Primary, Secondary}
use Rattle.flow.specs.Parts.{queue_of}
use Rattle.flow.specs.Range.{FlowOk}
use Rattle.flow.proofs.Kept.{credits_kept, stage_kept, queue_kept}
use Rattle.selection.specs.declared.Selected.{Selected}
use Rattle.selection.specs.Select.{control_ready, primary_ready, needy, leaves, secondary_ready, select_of}
use Rattle.selection.proofs.Select.{Goes, control, primary, pressed, staged, secondary, nothing, goes}

module _ {s : Settings} {f : Flow} (ok : FlowOk s f) where
  -- a frame that leaves
  leave_kept : (l : Line) → holds_frame (queue_of f l) ≡ true → FlowOk s (leaves f l).flow
  leave_kept l h = queue_kept ok l (taken (queue_of f l)) (take_ok (ok.queues l) h)

  -- needy implies a frame: the capacity is at least twice the mtu
  pub needy_holds : SettingsOk s → Holds (needy s f) → holds_frame f.secondary ≡ true
  needy_holds good h = tight_holds (ok.queues Secondary) (omega (arith, good.of_queues.secondary_least)) h

module _ {s : Settings} (good : SettingsOk s) where
  row_kept : {f : Flow} {r : Selected} → FlowOk s f → Goes s f r → FlowOk s r.flow
  row_kept {f} ok (control a) = leave_kept (credits_kept ok good (sends (M ∷ []) (queue.first_frame f.control).size)) Control (lt-ltb 0 f.control.count (facts (control_ready s f) a).0)
  row_kept {f} ok (primary a b) = leave_kept ok Primary (lt-ltb 0 f.primary.count (facts (primary_ready f) b))
  row_kept {f} ok (pressed a b c) = leave_kept ok Secondary (needy_holds ok good (facts (needy s f) c))
  row_kept {f} ok (staged a b c d) = stage_kept ok 0 (inl refl)
  row_kept {f} ok (secondary a b c d e) =
      leave_kept (credits_kept ok good (sends (D ∷ []) (queue.first_frame f.secondary).size)) Secondary (lt-ltb 0 f.secondary.count (facts (secondary_ready s f) e).0)
  row_kept {f} ok (nothing a b c d e) = ok

  pub select_kept : {f : Flow} → FlowOk s f → FlowOk s (select_of s f).flow
  select_kept {f} ok = row_kept ok (goes s f)
