-- What a queue and the stage hold, as frames: what their tests say of them.
-- Assumes nothing.
use Prim.Native.Nat.{ℕ, zero, suc, ◌<◌}
use mathlib.Core.Bool.{true}
use mathlib.Core.List.{List, [], ◌∷◌}
use mathlib.Core.Logic.{◌↔◌}
use mathlib.Core.Path.{◌≡◌, refl}
use native.Mathlib.Omega.{arith}
use borrow.Author.Tests.{ltb-true, ltb-false, lt-ltb}
use Rattle.decide.proofs.Cases.{by_cases, true_or_false}
use Rattle.queue.specs.declared.Frame.{Frame}
use Rattle.queue.specs.declared.Queue.{Queue}
use Rattle.queue.specs.Queue.{frames_from, frames_of, first_frame, holds_frame}
use Rattle.flow.specs.declared.Flow.{Flow}
use Rattle.flow.specs.Parts.{stage_holds}
use Rattle.flow.specs.Frames.{Holding, Staged}

none_from : (slots : List ℕ) (h n : ℕ) → frames_from slots h n ≡ [] → n ≡ 0
unfolding frames_from
none_from slots h zero e = refl
none_from slots h (suc n) e = cc

from_none : (slots : List ℕ) (h n : ℕ) → n ≡ 0 → frames_from slots h n ≡ []
unfolding frames_from
from_none slots h n e = rw e

first_from : (slots : List ℕ) (h n : ℕ) (x : Frame) (xs : List Frame) → frames_from slots h n ≡ x ∷ xs
    → (0 < n) × (first_frame (record { slots = slots; head = h; count = n; held = 0 }) ≡ x)
unfolding frames_from first_frame
first_from slots h zero x xs e = let z : ◌≡◌ {A = ℕ} 0 1 = cc in absurd (omega arith)
first_from slots h (suc n) x xs e = (omega arith, cc)

module _ (q : Queue) where
  pub holding : (holds_frame q ≡ true) ↔ Holding q
  unfolding frames_of
  holding = (
    λ h e. let some = ltb-true 0 q.count h in let none = none_from q.slots q.head q.count e in omega arith,
    λ some. by_cases (true_or_false (holds_frame q)) (λ h. h) (λ h. absurd (some (from_none q.slots q.head q.count (omega (arith, ltb-false 0 q.count h))))),
  )

  -- the first of its frames
  module _ (x : Frame) (xs : List Frame) (e : frames_of q ≡ x ∷ xs) where
    pub head_holds : holds_frame q ≡ true
    unfolding frames_of
    head_holds = lt-ltb 0 q.count (first_from q.slots q.head q.count x xs e).0

    pub head_first : first_frame q ≡ x
    unfolding frames_of first_frame
    head_first = (first_from q.slots q.head q.count x xs e).1

pub staged : (f : Flow) → (stage_holds f ≡ true) ↔ Staged f
staged f = (λ h e. let some = ltb-true 0 f.stage h in omega arith, λ some. by_cases (true_or_false (stage_holds f)) (λ h. h) (λ h. absurd (some (omega (arith, ltb-false 0 f.stage h)))))
