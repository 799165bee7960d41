-- The frame that is selected fits the bytes of the answer, and its hops are within the ring: it comes from a queue or a stage in range, or there is none.
-- Assumes nothing.
use Prim.Native.Nat.{ℕ, ◌≤◌, ◌<◌}
use mathlib.Core.Bool.{true}
use mathlib.Core.Path.{◌≡◌, refl, sym, ap, ◌∙◌}
use native.Mathlib.Omega.{arith}
use borrow.Author.Tests.{lt-ltb}
use Rattle.decide.specs.Test.{test, facts}
use Rattle.decide.proofs.Cases.{by_cases}
use Rattle.wire.specs.Wire.{digits}
use Rattle.settings.specs.declared.Settings.{Settings}
use Rattle.settings.specs.Range.{SettingsOk}
use Rattle.queue.specs.declared.Bounds.{Bounds}
use Rattle.queue.specs.declared.Frame.{Frame}
use Rattle.queue.specs.Frame.{FrameOk, HeldOk, frame_of}
use Rattle.queue.proofs.Laws.{first_ok}
use Rattle.flow.specs.declared.Flow.{Flow}
use Rattle.flow.specs.declared.Line.TheVariants.{Control, Primary, Secondary}
use Rattle.flow.specs.Parts.{bounds_of}
use Rattle.flow.specs.Range.{FlowOk}
use Rattle.selection.specs.declared.Selected as selection
use Rattle.selection.specs.Select.{control_ready, primary_ready, needy, secondary_ready}
use Rattle.selection.proofs.Select.{Goes, control, primary, pressed, staged, secondary, nothing, goes, nothing_exactly}
use Rattle.selection.proofs.Kept.{needy_holds}
use Rattle.station.specs.declared.Station.{Station}
use Rattle.station.specs.Range.{station_ok, StationOk}
use Rattle.station.specs.Answers.{chosen_of, origin_said, rest_after}
use Rattle.station.proofs.Calls.{select_done}
use Rattle.station.proofs.Select.{nothing_leaves}
use Rattle.answer.specs.Bytes.{packed, selected_bytes}
use Rattle.answer.proofs.Bytes.{EachByte}

-- a frame in range
of_frame : {bounds : Bounds} {x : Frame} (origin : ℕ) → origin ≤ 4 → FrameOk bounds x → EachByte (selected_bytes origin x)
unfolding digits
of_frame origin h r = omega (arith, r.class, r.hops, r.mark)

-- an empty slot or stage
of_none : (origin w : ℕ) → origin ≤ 4 → w ≡ 0 → EachByte (selected_bytes origin (frame_of w))
unfolding digits
of_none origin w h e = omega arith

-- what holds of a frame that may be held and of an empty slot, from any place, holds of what is selected
module _ {s : Settings} {f : Flow} (good : SettingsOk s) (ok : FlowOk s f) (P : ℕ → Frame → Type 0)
    (frame : (origin : ℕ) (x : Frame) → origin ≤ 4 → HeldOk (bounds_of s) x → P origin x) (none : (origin w : ℕ) → origin ≤ 4 → w ≡ 0 → P origin (frame_of w)) where
  of_row : {r : selection.Selected} → Goes s f r → P r.origin r.frame
  of_row (control a) = frame 1 _ (omega arith) (first_ok (ok.queues Control) (lt-ltb 0 f.control.count (facts (control_ready s f) a).0))
  of_row (primary a b) = frame 2 _ (omega arith) (first_ok (ok.queues Primary) (lt-ltb 0 f.primary.count (facts (primary_ready f) b)))
  of_row (pressed a b c) = frame 3 _ (omega arith) (first_ok (ok.queues Secondary) (needy_holds ok good (facts (needy s f) c)))
  of_row (staged a b c d) = by_cases ok.stage (λ e. none 4 f.stage (omega arith) e) (λ x. frame 4 _ (omega arith) x)
  of_row (secondary a b c d e) =
      frame 3 _ (omega arith) (first_ok (ok.queues Secondary) (lt-ltb 0 f.secondary.count (facts (secondary_ready s f) e).0))
  of_row (nothing a b c d e) = none 0 0 (omega arith) (omega arith)

module _ {st : Station} (ok : StationOk st) where
  pub chosen_small : EachByte (selected_bytes (chosen_of st).origin (chosen_of st).frame)
  chosen_small =
      of_row ok.settings ok.flow (λ (origin : ℕ) (x : Frame). EachByte (selected_bytes origin x)) (λ origin x h r. of_frame origin h r.frame) of_none
      (goes st.settings st.flow)

  -- its hops are within the ring
  pub chosen_in_ring : (chosen_of st).frame.hops < st.settings.site.stations
  chosen_in_ring =
      of_row ok.settings ok.flow (λ (origin : ℕ) (x : Frame). x.hops < st.settings.site.stations) (λ origin x h r. r.ring)
      (λ origin w h e. omega (arith, e, ok.settings.of_site.stations_least)) (goes st.settings st.flow)

-- Where nothing goes the answer is 0, and the station is as it was.
pub nothing_chosen : (st : Station) → test (station_ok st) ≡ true → (chosen_of st).origin ≡ 0
    → (0 ≡ packed (selected_bytes (chosen_of st).origin (chosen_of st).frame)) × (st ≡ (chosen_of st).station)
unfolding digits
nothing_chosen st o e =
    let none = nothing_exactly st.settings st.flow in
    let given = none.whenever (none.only e) in
    let same = nothing_leaves st (ap origin_said (select_done st o) ∙ e) in
    (rw given refl, sym (ap (rest_after st) (sym (select_done st o)) ∙ same))
