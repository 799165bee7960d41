-- Selection: table 6.4, store and forward.
-- Assumes nothing.
use Rattle.std.specs.Prelude.{ℕ, zero, suc, cond, List, [], ◌∷◌, ◌⊎◌, ◌≡◌}
use Rattle.decide.specs.Test.{Test, test, Holds, ◌≤?◌, ◌<?◌, ◌∧?◌}
use Rattle.queue.specs.Frame.{frame_of}
use Rattle.queue.specs.Queue.{first_frame, taken, space_of}
use Rattle.settings.specs.declared.Settings.{Settings}
use Rattle.credits.specs.declared.Which.{Which}
use Rattle.credits.specs.declared.Which.TheVariants.{M, D}
use Rattle.credits.specs.Which.{sends, fed}
use Rattle.flow.specs.declared.Flow.{Flow}
use Rattle.flow.specs.declared.Line.{Line}
use Rattle.flow.specs.declared.Line.TheVariants.{Control, Primary, Secondary}
use Rattle.flow.specs.Parts.{queue_of, with_credits, with_stage, with_queue}
use Rattle.selection.specs.declared.Selected.{Selected}

-- ---- what may go

-- control, if its head's size fits the space of both transit queues and M permits
abbrev pub control_ready : Settings → Flow → Test
control_ready s f =
    0 <? f.control.count
    ∧? (first_frame f.control).size ≤? space_of f.primary s.queues.primary
    ∧? (first_frame f.control).size ≤? space_of f.secondary s.queues.secondary
    ∧? s.shapers.m.lo <? f.credits.m

-- primary
abbrev pub primary_ready : Flow → Test
primary_ready f = 0 <? f.primary.count

-- secondary, if mtu > its space
abbrev pub needy : Settings → Flow → Test
needy s f = space_of f.secondary s.queues.secondary <? s.mtu

-- stage
abbrev pub stage_ready : Flow → Test
stage_ready f = 0 <? f.stage

-- secondary, if D permits
abbrev pub secondary_ready : Settings → Flow → Test
secondary_ready s f = 0 <? f.secondary.count ∧? s.shapers.d.lo <? f.credits.d

-- ---- how it goes

-- where a frame comes from: 1 control, 2 primary, 3 secondary
abbrev pub origin_of : Line → ℕ
origin_of Control = 1
origin_of Primary = 2
origin_of Secondary = 3

-- The chosen frame leaves its queue: the first one, and nothing is charged.
abbrev pub leaves : Flow → Line → Selected
leaves f l = record { origin = origin_of l; frame = first_frame (queue_of f l); flow = with_queue f l (taken (queue_of f l)) }

-- the same, with a shaper charged
abbrev pub leaves_charged : Settings → Flow → Line → Which → Selected
leaves_charged s f l w = leaves (with_credits f (fed s f.credits (sends (w ∷ []) (first_frame (queue_of f l)).size))) l

-- the frame in the stage, which was charged for as it came, leaves it empty: origin 4
abbrev pub leaves_stage : Flow → Selected
leaves_stage f = record { origin = 4; frame = frame_of f.stage; flow = with_stage f 0 }

-- nothing goes: origin 0, no frame, the flow as it was
abbrev pub nothing_of : Flow → Selected
nothing_of f = record { origin = 0; frame = frame_of 0; flow = f }

-- ---- the table

-- a row: when it holds, and what is selected then
pub record Candidate : Type 0 where
  pub when : Test
  pub gives : Selected

abbrev pub row : Test → Selected → Candidate
row t r = record { when = t; gives = r }

-- First that holds: control, if .. (M charged); primary; secondary, if mtu > its space (nothing charged); stage; secondary, if D permits (D charged);
abbrev pub candidates : Settings → Flow → List Candidate
candidates s f =
    row (control_ready s f) (leaves_charged s f Control M)
    ∷ row (primary_ready f) (leaves f Primary)
    ∷ row (needy s f) (leaves f Secondary)
    ∷ row (stage_ready f) (leaves_stage f)
    ∷ row (secondary_ready s f) (leaves_charged s f Secondary D)
    ∷ []

abbrev pub first_that : List Candidate → Selected → Selected
first_that [] none = none
first_that (c ∷ cs) none = cond (test c.when) c.gives (first_that cs none)

-- .. nothing, where no row holds.
unfoldable pub select_of : Settings → Flow → Selected
select_of s f = first_that (candidates s f) (nothing_of f)

-- ---- the table, read as conditions

abbrev pub No : Test → Type 0
No t = Holds t → ⊥

-- under which condition an origin is answered: nothing, control, primary, secondary, stage, and no other ever
abbrev pub When : Settings → Flow → ℕ → Type 0
When s f zero = No (control_ready s f) × (No (primary_ready f) × (No (needy s f) × (No (stage_ready f) × No (secondary_ready s f))))
When s f (suc zero) = Holds (control_ready s f)
When s f (suc (suc zero)) = No (control_ready s f) × Holds (primary_ready f)
When s f (suc (suc (suc zero))) =
    No (control_ready s f) × (No (primary_ready f) × (Holds (needy s f) ⊎ (No (needy s f) × (No (stage_ready f) × Holds (secondary_ready s f)))))
When s f (suc (suc (suc (suc zero)))) = No (control_ready s f) × (No (primary_ready f) × (No (needy s f) × Holds (stage_ready f)))
When s f (suc (suc (suc (suc (suc n))))) = ⊥

-- an origin is answered only under its condition, and whenever that holds this is selected
pub record GoesExactly (s : Settings) (f : Flow) (origin : ℕ) (gives : Selected) : Type 0 where
  pub only : (select_of s f).origin ≡ origin → When s f origin
  pub whenever : When s f origin → select_of s f ≡ gives
