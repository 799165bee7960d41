-- The tests of selection, each in the paper's words: when a row of table 6.4 holds.
-- Assumes nothing.
use Prim.Native.Nat.{ℕ, ◌≤◌, ◌<◌}
use mathlib.Core.Bool.{true, false}
use mathlib.Core.List.{List, [], ◌∷◌}
use mathlib.Core.Logic.{◌↔◌}
use mathlib.Core.Path.{◌≡◌, sym, subst}
use borrow.Author.Tests.{ltb-true, lt-ltb}
use Rattle.decide.specs.Test.{test, facts, passes}
use Rattle.decide.proofs.Tests.{failing}
use Rattle.queue.specs.declared.Frame.{Frame}
use Rattle.queue.specs.Queue.{frames_of, space_of}
use Rattle.settings.specs.declared.Settings.{Settings}
use Rattle.flow.specs.declared.Flow.{Flow}
use Rattle.flow.specs.Frames.{Holding, Staged}
use Rattle.flow.proofs.Held.{holding, head_holds, head_first, staged}
use Rattle.selection.specs.Select.{control_ready, primary_ready, needy, stage_ready, secondary_ready}

-- a size fits the space of both transit queues, and M permits
abbrev pub ControlFits : Settings → Flow → ℕ → Type 0
ControlFits s f size =
    (size ≤ space_of f.primary s.queues.primary) × ((size ≤ space_of f.secondary s.queues.secondary) × (s.shapers.m.lo < f.credits.m))

module _ (s : Settings) (f : Flow) where
  -- control, if its head's size fits the space of both transit queues and M permits
  pub control_ready_exactly : (x : Frame) (xs : List Frame) → frames_of f.control ≡ x ∷ xs → (test (control_ready s f) ≡ true) ↔ ControlFits s f x.size
  control_ready_exactly x xs e =
      let Fits : Frame → Type 0 = λ (y : Frame). ControlFits s f y.size in
      let same = head_first f.control x xs e in (
        λ h. subst Fits same (facts (control_ready s f) h).1,
        λ h. passes (control_ready s f) (ltb-true 0 f.control.count (head_holds f.control x xs e), subst Fits (sym same) h),
      )

  -- and not where it holds none
  pub control_none : frames_of f.control ≡ [] → test (control_ready s f) ≡ false
  control_none e = failing (control_ready s f) (λ h. (holding f.control).0 (lt-ltb 0 f.control.count h.0) e)

  -- primary
  pub primary_ready_exactly : (test (primary_ready f) ≡ true) ↔ Holding f.primary
  unfolding test
  primary_ready_exactly = holding f.primary

  -- secondary, if mtu > its space
  pub needy_exactly : (test (needy s f) ≡ true) ↔ (space_of f.secondary s.queues.secondary < s.mtu)
  needy_exactly = (facts (needy s f), passes (needy s f))

  -- stage
  pub stage_ready_exactly : (test (stage_ready f) ≡ true) ↔ Staged f
  unfolding test
  stage_ready_exactly = staged f

  -- secondary, if D permits
  pub secondary_ready_exactly : (test (secondary_ready s f) ≡ true) ↔ (Holding f.secondary × (s.shapers.d.lo < f.credits.d))
  secondary_ready_exactly = (
    λ h. let (some, permitted) = facts (secondary_ready s f) h in ((holding f.secondary).0 (lt-ltb 0 f.secondary.count some), permitted),
    λ h. passes (secondary_ready s f) (ltb-true 0 f.secondary.count ((holding f.secondary).1 h.0), h.1),
  )
