-- Frames in: transit and control frames into the queues, client frames into the stage.
-- Assumes nothing.
use Rattle.std.specs.Prelude.{ℕ, Bool, cond, not, ◌&&◌, List, [], ◌∷◌, Result, Ok, Err, ltb, eqb}
use Rattle.decide.specs.Refusal.{Fault, fault, first_of, refused_or}
use Rattle.queue.specs.declared.Frame.{Frame}
use Rattle.queue.specs.Frame.{HeldOk, word_of}
use Rattle.queue.specs.Queue.{pushed, space_of}
use Rattle.shaper.specs.declared.Refused.{Refused}
use Rattle.shaper.specs.Short.{detail_of}
use Rattle.shaper.specs.Refused.{refused}
use Rattle.settings.specs.declared.Settings.{Settings}
use Rattle.settings.specs.Range.{SettingsOk}
use Rattle.credits.specs.declared.Way.{Way}
use Rattle.credits.specs.Which.{permits_all, sends, fed}
use Rattle.credits.specs.Short.{short_all}
use Rattle.credits.specs.Way.{needs_of, mark_of, way_of}
use Rattle.flow.specs.declared.Client.{Client}
use Rattle.flow.specs.declared.Flow.{Flow}
use Rattle.flow.specs.declared.Line.{Line}
use Rattle.flow.specs.declared.Line.TheVariants.{Control, Primary, Secondary}
use Rattle.flow.specs.Parts.{queue_of, capacity_of, bounds_of, stage_holds, with_credits, with_stage, with_queue}
use Rattle.flow.specs.Range.{FlowOk}

-- ---- into the queues

-- what an offer to a queue may take for granted: settings and flow are in range, and the frame may be held
pub record Offered (s : Settings) (f : Flow) (x : Frame) : Type 0 where
  pub settings : SettingsOk s
  pub flow : FlowOk s f
  pub frame : HeldOk (bounds_of s) x

-- what an offer to a queue answers: the flow afterwards, or a refusal
abbrev pub Entered : Type 0
Entered = Result Flow Refused

-- 4: a frame's size exceeds the queue's space
abbrev pub enter_faults : Settings → Flow → Line → Frame → List Fault
enter_faults s f l x = fault 4 (ltb (space_of (queue_of f l) (capacity_of s l)) x.size) ∷ []

-- a refusal is its number alone: no flow is answered, so that nothing is changed
abbrev pub not_entered_of : ℕ → Entered
not_entered_of n = Err (refused n 0)

-- the frame stands last in its queue
abbrev pub appended_of : Flow → Line → Frame → Entered
appended_of f l x = Ok (with_queue f l (pushed (queue_of f l) x))

abbrev pub enter_of : Settings → Flow → Line → Frame → Entered
enter_of s f l x = refused_or not_entered_of (first_of (enter_faults s f l x)) (appended_of f l x)

-- Transit A goes to the primary queue, B and C to the secondary.
unfoldable pub queue_for : Settings → ℕ → Line
queue_for s class = cond (eqb class 0) Primary Secondary

abbrev pub transit_of : Settings → Flow → Frame → Entered
transit_of s f x = enter_of s f (queue_for s x.class) x

-- Control frames, given by size alone (class A, 1 hop), go to the control queue.
abbrev pub control_frame : ℕ → Frame
control_frame size = record { size = size; hops = 1; class = 0; mark = 0 }

abbrev pub control_of : Settings → Flow → ℕ → Entered
control_of s f size = enter_of s f Control (control_frame size)

-- ---- into the stage

-- what the answer to a client says of the frame's mark: 0 where it is refused
abbrev pub mark_said : Result Client Refused → ℕ
mark_said (Ok r) = r.mark
mark_said (Err e) = 0

-- and the flow afterwards: a refusal leaves it as it was
abbrev pub flow_after : Flow → Result Client Refused → Flow
flow_after f (Ok r) = r.flow
flow_after f (Err e) = f

-- 5: the stage already holds a frame; 6: a needed shaper doesn't permit; 7: the congested fair rate would be passed, by a frame that is eligible
abbrev pub client_faults : Settings → Flow → Way → Bool → List Fault
client_faults s f w over =
    fault 5 (stage_holds f)
    ∷ fault 6 (not (permits_all s f.credits (needs_of w)))
    ∷ fault 7 (eqb (mark_of w) 1 && over)
    ∷ []

-- the frame as it lies in the stage
abbrev pub client_frame : Way → ℕ → ℕ → ℕ → Frame
client_frame w class size hops = record { size = size; hops = hops; class = class; mark = mark_of w }

-- a refusal is a number, and what it says beside it: no flow is answered, so that nothing is changed
abbrev pub refused_of : ℕ → ℕ → Result Client Refused
refused_of n detail = Err (refused n detail)

-- the frame lies in the stage, and the shapers that it needs are charged
abbrev pub laid_of : Settings → Flow → Way → Frame → Result Client Refused
laid_of s f w x =
    Ok (record {
      mark = x.mark;
      flow = with_stage (with_credits f (fed s f.credits (sends (needs_of w) x.size))) (word_of x);
    })

-- a client frame that goes this way; 6 says how far short the shapers are that this way needs
abbrev pub client_as : Way → Settings → Flow → ℕ → ℕ → ℕ → Bool → Result Client Refused
client_as w s f class size hops over =
    refused_or (λ n. refused_of n (detail_of n (short_all s f.credits (needs_of w)))) (first_of (client_faults s f w over))
    (laid_of s f w (client_frame w class size hops))

abbrev pub client_of : Settings → Flow → ℕ → ℕ → ℕ → Bool → Result Client Refused
client_of s f class size hops over = client_as (way_of s f.credits class) s f class size hops over
