-- Where the frames are, as lists: an offer appends its frame, and neither it nor a tick moves another.
-- Assumes nothing.
use Prim.Native.Nat.{ℕ, ◌≤◌}
use Rattle.std.specs.Prelude.{Result}
use mathlib.Core.Bool.{Bool}
use mathlib.Core.List.{[], ◌∷◌, ◌++◌}
use mathlib.Core.Path.{◌≡◌, refl, ap, ◌∙◌}
use native.Mathlib.Omega.{arith}
use borrow.Author.Tests.{lt-ltb}
use Rattle.decide.specs.Refusal.{first_of}
use Rattle.decide.proofs.Number.{number_told}
use Rattle.decide.proofs.Refused.{of_answer}
use Rattle.queue.specs.declared.Frame.{Frame}
use Rattle.queue.specs.declared.Queue.{Queue}
use Rattle.queue.specs.Frame.{FrameOk, HeldOk, word_of}
use Rattle.queue.specs.Queue.{frames_of, pushed, space_of}
use Rattle.queue.proofs.Laws.{empty_frames, push_appends}
use Rattle.queue.proofs.Word.{frame_fits, word_frame, word_not_empty}
use Rattle.settings.specs.declared.Settings.{Settings}
use Rattle.settings.specs.Range.{SettingsOk}
use Rattle.credits.specs.Way.{way_of}
use Rattle.flow.specs.declared.Client.{Client}
use Rattle.flow.specs.declared.Flow.{Flow}
use Rattle.flow.specs.declared.Line.{Line}
use Rattle.flow.specs.declared.Line.TheVariants.{Control, Primary, Secondary}
use Rattle.flow.specs.Parts.{queue_of, capacity_of, bounds_of, with_queue}
use Rattle.flow.specs.Range.{FlowOk}
use Rattle.flow.specs.Tick.{start_of, tick_of}
use Rattle.shaper.specs.declared.Refused.{Refused}
use Rattle.shaper.specs.Refused.{number_said, afterwards}
use Rattle.flow.specs.Offer.{enter_of, client_faults, client_frame, flow_after, client_of}
use Rattle.flow.proofs.Kept.{client_frame_ok}
use Rattle.flow.proofs.Offer.{enter_taken}
use Rattle.flow.proofs.Range.{bounds_ok, start_queue}
use Rattle.flow.specs.Frames.{stage_frames}

same_queue : (f : Flow) (l : Line) (q : Queue) → queue_of (with_queue f l q) l ≡ q
same_queue f Control q = refl
same_queue f Primary q = refl
same_queue f Secondary q = refl

-- no frame at the start
pub start_frames : (s : Settings) (l : Line) → frames_of (queue_of (start_of s) l) ≡ []
start_frames s l = ap frames_of (start_queue s l) ∙ empty_frames

module _ (s : Settings) (f : Flow) where
  -- a tick moves none
  pub tick_queues : (share : ℕ) (a b c : Bool) (l : Line) → queue_of (tick_of s f share a b c) l ≡ queue_of f l
  unfolding tick_of
  tick_queues share a b c Control = refl
  tick_queues share a b c Primary = refl
  tick_queues share a b c Secondary = refl

  pub tick_stage : (share : ℕ) (a b c : Bool) → (tick_of s f share a b c).stage ≡ f.stage
  unfolding tick_of
  tick_stage share a b c = refl

  -- a frame that fits stands last in its queue
  pub enter_appends : SettingsOk s → FlowOk s f → (l : Line) (x : Frame) → HeldOk (bounds_of s) x → x.size ≤ space_of (queue_of f l) (capacity_of s l)
      → frames_of (queue_of (afterwards f (enter_of s f l x)) l) ≡ frames_of (queue_of f l) ++ (x ∷ [])
  enter_appends good ok l x h fits =
      rw (enter_taken s f l x fits, same_queue f l (pushed (queue_of f l) x)) (push_appends (ok.queues l) x (bounds_ok good) h fits)

module _ {s : Settings} (good : SettingsOk s) (f : Flow) where
  -- a client frame that is taken lies in the stage, marked where it is excess
  pub client_stages : (class size hops : ℕ) (over : Bool) → FrameOk (bounds_of s) (record { size = size; hops = hops; class = class; mark = 0 })
      → number_said (client_of s f class size hops over) ≡ 0
      → stage_frames (flow_after f (client_of s f class size hops over)) ≡ client_frame (way_of s f.credits class) class size hops ∷ []
  client_stages class size hops over h =
      let x = client_frame (way_of s f.credits class) class size hops in
      let ok = client_frame_ok good f class size hops h in
      let n = first_of (client_faults s f (way_of s f.credits class) over) in
      of_answer _ _ (λ (r : Result Client Refused). number_said r ≡ 0 → stage_frames (flow_after f r) ≡ x ∷ []) n
      (λ z e. rw (lt-ltb 0 (word_of x) (word_not_empty (bounds_ok good) ok), word_frame x (frame_fits (bounds_ok good) ok)))
      (λ z e. absurd (omega (arith, z, number_told n, e)))
