-- Where the frames are, as lists: a selection takes a first one, and moves no other.
-- Assumes nothing.
use mathlib.Core.Path.{refl}
use borrow.Author.Tests.{lt-ltb}
use Rattle.decide.specs.Test.{facts}
use Rattle.queue.proofs.Laws.{take_first}
use Rattle.settings.specs.declared.Settings.{Settings}
use Rattle.settings.specs.Range.{SettingsOk}
use Rattle.flow.specs.declared.Flow.{Flow}
use Rattle.flow.specs.declared.Line.TheVariants.{Control, Primary, Secondary}
use Rattle.flow.specs.Range.{FlowOk}
use Rattle.selection.specs.declared.Selected.{Selected}
use Rattle.selection.specs.Select.{control_ready, primary_ready, needy, stage_ready, secondary_ready, select_of}
use Rattle.selection.proofs.Kept.{needy_holds}
use Rattle.selection.proofs.Select.{Goes, control, primary, pressed, staged, secondary, nothing, goes}
use Rattle.selection.specs.Frames.{Moves}

module _ {s : Settings} {f : Flow} (good : SettingsOk s) (ok : FlowOk s f) where
  row_moves : {r : Selected} → Goes s f r → Moves f r
  row_moves (control a) =
      record {
        of_control = take_first (ok.queues Control) (lt-ltb 0 f.control.count (facts (control_ready s f) a).0);
        of_primary = refl;
        of_secondary = refl;
        of_stage = refl;
      }
  row_moves (primary a b) =
      record {
        of_control = refl;
        of_primary = take_first (ok.queues Primary) (lt-ltb 0 f.primary.count (facts (primary_ready f) b));
        of_secondary = refl;
        of_stage = refl;
      }
  row_moves (pressed a b c) =
      record {
        of_control = refl;
        of_primary = refl;
        of_secondary = take_first (ok.queues Secondary) (needy_holds ok good (facts (needy s f) c));
        of_stage = refl;
      }
  row_moves (staged a b c d) =
      record {
        of_control = refl;
        of_primary = refl;
        of_secondary = refl;
        of_stage = rw (lt-ltb 0 f.stage (facts (stage_ready f) d));
      }
  row_moves (secondary a b c d e) =
      record {
        of_control = refl;
        of_primary = refl;
        of_secondary = take_first (ok.queues Secondary) (lt-ltb 0 f.secondary.count (facts (secondary_ready s f) e).0);
        of_stage = refl;
      }
  row_moves (nothing a b c d e) = record { of_control = refl; of_primary = refl; of_secondary = refl; of_stage = refl }

  pub select_moves : Moves f (select_of s f)
  select_moves = row_moves (goes s f)
