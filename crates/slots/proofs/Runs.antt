-- The frames that a queue holds, as runs of slots that do not go round the ring: one frame more of a run, and the runs of a queue.
-- Assumes nothing.
use Prim.Native.Nat.{ℕ, ◌+◌, ◌-◌, ◌≤◌, ◌<◌, min}
use mathlib.Core.List.{List, [], ◌∷◌, ◌++◌, append-nil}
use mathlib.Core.Path.{◌≡◌, refl, sym, ap, ◌∙◌}
use mathlib.Core.Bool.{Bool, ◌&&◌, and_assoc, and-true}
use native.Mathlib.Omega.{arith}
use lib.ListN.{get_or}
use Rattle.decide.specs.Test.{test}
use Rattle.decide.proofs.Cases.{by_cases, le_or}
use Rattle.queue.specs.declared.Bounds.{Bounds}
use Rattle.queue.specs.declared.Frame.{Frame}
use Rattle.queue.specs.Frame.{frame_of, held_ok}
use Rattle.queue.specs.Queue.{frames_from, sizes}
use Rattle.queue.specs.Range.{frames_ok}
use Rattle.slots.specs.Slots.{found_of}
use Rattle.queue.proofs.Ring.{from_mod, from_append, from_more, from_done, sizes_append}

-- ---- a run: what was found so far, and the frames still to come, may be held exactly where all may

module _ (bounds : Bounds) (s : List ℕ) (i to : ℕ) (good whole : Bool) (w : (good && test (frames_ok bounds (frames_from s i (to - i)))) ≡ whole) where
  pub good_more : i < to → i < 128 → ((good && test (held_ok bounds (frame_of (get_or s i 0)))) && test (frames_ok bounds (frames_from s (i + 1) (to - (i + 1))))) ≡ whole
  unfolding frames_ok test
  good_more p l =
      and_assoc good (test (held_ok bounds (frame_of (get_or s i 0)))) (test (frames_ok bounds (frames_from s (i + 1) (to - (i + 1)))))
      ∙ ap (λ (fs : List Frame). good && test (frames_ok bounds fs)) (sym (from_more s i to p l))
      ∙ w

  pub good_done : to ≤ i → good ≡ whole
  unfolding frames_ok test
  good_done p = sym (ap (λ (fs : List Frame). good && test (frames_ok bounds fs)) (from_done s i to p) ∙ and-true good) ∙ w

-- ---- the runs of a queue

good_append : (bounds : Bounds) (fs gs : List Frame) → (test (frames_ok bounds fs) && test (frames_ok bounds gs)) ≡ test (frames_ok bounds (fs ++ gs))
unfolding frames_ok test
good_append bounds [] gs = refl
good_append bounds (f ∷ fs) gs =
    and_assoc (test (held_ok bounds f)) (test (frames_ok bounds fs)) (test (frames_ok bounds gs)) ∙ ap (λ (b : Bool). test (held_ok bounds f) && b) (good_append bounds fs gs)

-- the first run ends at the last slot, the other begins with slot 0; where the frames do not go round the ring it is empty
module _ (s : List ℕ) (h n near : ℕ) (l : h < 128) (e : near ≡ min (h + n) 128) where
  both : frames_from s h (near - h) ++ frames_from s 0 (h + n - near) ≡ frames_from s h n
  unfolding frames_from
  both =
      by_cases (le_or (h + n) 128)
      (λ p.
      let k : near - h ≡ n = omega arith in
      let m : h + n - near ≡ 0 = omega arith in
      rw (k, m) (append-nil (frames_from s h n)))
      (λ p.
      let k : near - h + (h + n - near) ≡ n = omega arith in
      ap (λ (fs : List Frame). frames_from s h (near - h) ++ fs) (from_mod s 0 (h + (near - h)) (h + n - near) (omega arith))
      ∙ sym (from_append s h (near - h) (h + n - near))
      ∙ ap (frames_from s h) k)

  -- what they come to is what the frames held come to
  pub both_found : (bounds : Bounds) →
      record { good = test (frames_ok bounds (frames_from s h (near - h))) && test (frames_ok bounds (frames_from s 0 (h + n - near))); bytes = sizes (frames_from s h (near - h)) + sizes (frames_from s 0 (h + n - near)) }
      ≡ found_of bounds (frames_from s h n)
  both_found bounds =
      let g = good_append bounds (frames_from s h (near - h)) (frames_from s 0 (h + n - near)) in
      let b = sym (sizes_append (frames_from s h (near - h)) (frames_from s 0 (h + n - near))) in
      rw (g, b, both)
