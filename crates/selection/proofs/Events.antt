-- A selection feeds each shaper the events that it is to it: one send where its shaper was asked and permitted, and else nothing.
-- Assumes nothing.
use Prim.Native.Nat.{◌≤◌}
use mathlib.Core.Bool.{true}
use mathlib.Core.List.{[], ◌∷◌}
use mathlib.Core.Path.{◌≡◌, refl, sym, ◌∙◌}
use borrow.Author.Tests.{lt-ltb}
use Rattle.decide.specs.Test.{facts}
use Rattle.queue.specs.Queue as queue
use Rattle.queue.proofs.Laws.{first_ok}
use Rattle.settings.specs.declared.Settings.{Settings}
use Rattle.credits.specs.declared.Which.TheVariants.{M, D}
use Rattle.credits.proofs.Charge.{permits_one}
use Rattle.flow.specs.declared.Flow.{Flow}
use Rattle.flow.specs.declared.Line.{Line}
use Rattle.flow.specs.declared.Line.TheVariants.{Control, Secondary}
use Rattle.flow.specs.Parts.{queue_of}
use Rattle.flow.specs.Range.{FlowOk}
use Rattle.flow.specs.Events.{Feeds}
use Rattle.flow.proofs.Events.{none_feeds, charge_feeds}
use Rattle.selection.specs.declared.Selected.{Selected}
use Rattle.selection.specs.Select.{control_ready, secondary_ready, select_of}
use Rattle.selection.specs.Events.{select_events}
use Rattle.selection.proofs.Select.{Goes, control, primary, pressed, staged, secondary, nothing, goes, control_permitted, secondary_permitted}

module _ (s : Settings) (f : Flow) where
  -- the size of a queue's first frame
  head_size : FlowOk s f → (l : Line) → queue.holds_frame (queue_of f l) ≡ true → (16 ≤ (queue.first_frame (queue_of f l)).size) × ((queue.first_frame (queue_of f l)).size ≤ s.mtu)
  head_size ok l h = let x = first_ok (ok.queues l) h in (x.frame.least, x.frame.most)

  row_feeds : {r : Selected} → FlowOk s f → Goes s f r → Feeds s f r.flow (select_events s f r)
  row_feeds ok (control a) =
      charge_feeds s f _ (M ∷ []) (queue.first_frame f.control).size (head_size ok Control (lt-ltb 0 f.control.count (facts (control_ready s f) a).0))
      (sym (permits_one s f.credits M) ∙ control_permitted s f a) refl
  row_feeds ok (primary a b) = none_feeds s f _ refl
  row_feeds ok (pressed a b c) = rw c (none_feeds s f _ refl)
  row_feeds ok (staged a b c d) = none_feeds s f _ refl
  row_feeds ok (secondary a b c d e) =
      rw c
      (charge_feeds s f _ (D ∷ []) (queue.first_frame f.secondary).size (head_size ok Secondary (lt-ltb 0 f.secondary.count (facts (secondary_ready s f) e).0))
      (sym (permits_one s f.credits D) ∙ secondary_permitted s f e) refl)
  row_feeds ok (nothing a b c d e) = none_feeds s f _ refl

  -- control charges M; secondary charges D unless mtu > its space; the others charge nobody
  pub select_feeds : FlowOk s f → Feeds s f (select_of s f).flow (select_events s f (select_of s f))
  select_feeds ok = row_feeds ok (goes s f)
