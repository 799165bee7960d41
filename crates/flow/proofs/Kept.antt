-- Ticks and offers keep the range: a queue by the law of pushing, credits by those of events, the stage by its frame's range.
-- Assumes nothing.
use Prim.Native.Nat.{ℕ}
use Rattle.std.specs.Prelude.{Result}
use mathlib.Core.Bool.{Bool}
use mathlib.Core.List.{List}
use mathlib.Core.Logic.{◌⊎◌, inr}
use mathlib.Core.Path.{◌≡◌}
use Rattle.decide.proofs.Cases.{by_cases, le_or}
use Rattle.decide.proofs.Refused.{of_answer}
use Rattle.shaper.specs.declared.Event.{Event}
use Rattle.shaper.specs.declared.Refused.{Refused}
use Rattle.shaper.specs.Refused.{afterwards}
use Rattle.queue.specs.declared.Frame.{Frame}
use Rattle.queue.specs.declared.Queue.{Queue}
use Rattle.queue.specs.Frame.{FrameOk, HeldOk, frame_of, word_of}
use Rattle.queue.specs.Queue.{pushed, space_of}
use Rattle.queue.specs.Range.{QueueOk}
use Rattle.queue.proofs.Laws.{push_ok}
use Rattle.queue.proofs.Word.{frame_fits, word_frame}
use Rattle.settings.specs.declared.Settings.{Settings}
use Rattle.settings.specs.Range.{SettingsOk}
use Rattle.credits.specs.declared.Which.{Which}
use Rattle.credits.specs.Which.{sends, fed}
use Rattle.credits.specs.Way.{needs_of, way_of}
use Rattle.credits.proofs.Ways.{mark_most, way_mark}
use Rattle.credits.proofs.Range.{fed_ok}
use Rattle.flow.specs.declared.Client.{Client}
use Rattle.flow.specs.declared.Flow.{Flow}
use Rattle.flow.specs.declared.Line.{Line}
use Rattle.flow.specs.declared.Line.TheVariants.{Control, Primary, Secondary}
use Rattle.flow.specs.Parts.{queue_of, capacity_of, bounds_of, with_credits, with_stage, with_queue}
use Rattle.flow.specs.Range.{FlowOk}
use Rattle.flow.specs.Tick.{tick_events, tick_of}
use Rattle.flow.specs.Offer.{enter_of, queue_for, transit_of, control_frame, control_of, client_frame, flow_after, client_of}
use Rattle.flow.proofs.Offer.{enter_refused, enter_taken}
use Rattle.flow.proofs.Range.{bounds_ok, by_line}

module _ {s : Settings} {f : Flow} (ok : FlowOk s f) where
  -- ---- one part anew

  pub credits_kept : SettingsOk s → (events : Which → List Event) → FlowOk s (with_credits f (fed s f.credits events))
  credits_kept good events =
      record {
        credits = fed_ok s f.credits events good ok.credits;
        queues = by_line s (with_credits f (fed s f.credits events)) (ok.queues Control) (ok.queues Primary) (ok.queues Secondary);
        stage = ok.stage;
      }

  pub stage_kept : (w : ℕ) → (w ≡ 0) ⊎ HeldOk (bounds_of s) (frame_of w) → FlowOk s (with_stage f w)
  stage_kept w h =
      record {
        credits = ok.credits;
        queues = by_line s (with_stage f w) (ok.queues Control) (ok.queues Primary) (ok.queues Secondary);
        stage = h;
      }

  pub queue_kept : (l : Line) (q : Queue) → QueueOk (bounds_of s) (capacity_of s l) q → FlowOk s (with_queue f l q)
  queue_kept Control q h =
      record { credits = ok.credits; queues = by_line s (with_queue f Control q) h (ok.queues Primary) (ok.queues Secondary); stage = ok.stage }
  queue_kept Primary q h =
      record { credits = ok.credits; queues = by_line s (with_queue f Primary q) (ok.queues Control) h (ok.queues Secondary); stage = ok.stage }
  queue_kept Secondary q h =
      record { credits = ok.credits; queues = by_line s (with_queue f Secondary q) (ok.queues Control) (ok.queues Primary) h; stage = ok.stage }

-- ---- the calls

module _ {s : Settings} (good : SettingsOk s) where
  pub tick_kept : {f : Flow} → FlowOk s f → (share : ℕ) (a b c : Bool) → FlowOk s (tick_of s f share a b c)
  unfolding tick_of
  tick_kept {f} ok share a b c = credits_kept ok good (tick_events s f share a b c)

  enter_kept : {f : Flow} (l : Line) (x : Frame) → FlowOk s f → HeldOk (bounds_of s) x → FlowOk s (afterwards f (enter_of s f l x))
  enter_kept {f} l x ok h =
      by_cases (le_or x.size (space_of (queue_of f l) (capacity_of s l)))
      (λ fits. rw (enter_taken s f l x fits) (queue_kept ok l (pushed (queue_of f l) x) (push_ok (ok.queues l) x (bounds_ok good) h fits)))
      (λ over. rw (enter_refused s f l x over) ok)

  pub transit_kept : {f : Flow} (x : Frame) → FlowOk s f → HeldOk (bounds_of s) x → FlowOk s (afterwards f (transit_of s f x))
  transit_kept x ok h = enter_kept (queue_for s x.class) x ok h

  pub control_kept : {f : Flow} (size : ℕ) → FlowOk s f → HeldOk (bounds_of s) (control_frame size) → FlowOk s (afterwards f (control_of s f size))
  control_kept size ok h = enter_kept Control (control_frame size) ok h

  -- a frame that is given without a mark is in range as it lies in the stage
  pub client_frame_ok : (f : Flow) (class size hops : ℕ) → FrameOk (bounds_of s) (record { size = size; hops = hops; class = class; mark = 0 })
      → FrameOk (bounds_of s) (client_frame (way_of s f.credits class) class size hops)
  client_frame_ok f class size hops h =
      record {
        least = h.least;
        most = h.most;
        hops = h.hops;
        class = h.class;
        mark = mark_most (way_of s f.credits class);
        marked = way_mark s f.credits class;
      }

  pub client_kept : {f : Flow} (class size hops : ℕ) (over : Bool) → FlowOk s f → HeldOk (bounds_of s) (record { size = size; hops = hops; class = class; mark = 0 })
      → FlowOk s (flow_after f (client_of s f class size hops over))
  client_kept {f} class size hops over ok h =
      let x = client_frame (way_of s f.credits class) class size hops in
      let inside = client_frame_ok f class size hops h.frame in
      of_answer _ _ (λ (r : Result Client Refused). FlowOk s (flow_after f r)) _
      (λ e. stage_kept (credits_kept ok good (sends (needs_of (way_of s f.credits class)) size)) (word_of x) (inr (rw (word_frame x (frame_fits (bounds_ok good) inside)) (record { frame = inside; ring = h.ring }))))
      (λ e. ok)
