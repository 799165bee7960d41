-- A queue is in range exactly where the frames it holds are, and as many of its words are not 0 as it holds frames: the word of a frame in range is not 0, so
-- the words of the other slots are. Assumes nothing.
use Prim.Native.Nat.{ℕ, zero, suc, ◌+◌, ◌-◌, ◌%◌, ◌<◌, ◌≤◌}
use mathlib.Core.Path.{◌≡◌, refl, sym, ap, ◌∙◌}
use mathlib.Core.List.{List, [], ◌∷◌}
use mathlib.Core.Bool.{false}
use native.Mathlib.Omega.{arith}
use lib.ListN.{length, get_or}
use Rattle.decide.specs.Test.{test, Holds, decided, ◌≡?◌, ◌∧?◌}
use Rattle.decide.proofs.Tests.{same_test}
use Rattle.queue.specs.declared.Bounds.{Bounds}
use Rattle.queue.specs.declared.Frame.{Frame}
use Rattle.queue.specs.declared.Queue.{Queue}
use Rattle.queue.specs.Queue.{frames_from, frames_of, sizes}
use Rattle.queue.specs.Range.{AllOk, QueueOk, queue_ok, frames_ok, weighed, used_of, used_in}
use Rattle.queue.proofs.Word.{held_facts, held_holds}
use Rattle.queue.proofs.Ring.{weigh_split, weigh_held}
use Rattle.queue.proofs.Range.{queue_facts, queue_holds}

-- ---- the test of a list of frames as facts, and back

all_facts : (bounds : Bounds) (fs : List Frame) → Holds (frames_ok bounds fs) → AllOk bounds fs
unfolding frames_ok
all_facts bounds [] h = tt
all_facts bounds (f ∷ fs) h = (held_facts bounds f h.0, all_facts bounds fs h.1)

all_holds : (bounds : Bounds) (fs : List Frame) → AllOk bounds fs → Holds (frames_ok bounds fs)
unfolding frames_ok
all_holds bounds [] a = omega arith
all_holds bounds (f ∷ fs) a = (held_holds bounds f a.0, all_holds bounds fs a.1)

-- ---- how many words are not 0

-- those of frames in range are not
all_used : (bounds : Bounds) (s : List ℕ) (h n : ℕ) → AllOk bounds (frames_from s h n) → weighed used_of s h n ≡ n
unfolding frames_from weighed
all_used bounds s h zero a = refl
all_used bounds s h (suc n) a = omega (arith, a.0.frame.least, all_used bounds s (suc h) n a.1)

-- where there is none each is 0
none_used : (s : List ℕ) (h n : ℕ) → weighed used_of s h n ≡ 0 → (j : ℕ) → j < n → get_or s ((h + j) % 128) 0 ≡ 0
unfolding weighed
none_used s h zero e j l = absurd (omega arith)
none_used s h (suc n) e zero l = let k : (h + 0) % 128 ≡ h % 128 = omega arith in rw k (omega arith)
none_used s h (suc n) e (suc j) l = let k : (h + suc j) % 128 ≡ (suc h + j) % 128 = omega arith in rw k (none_used s (suc h) n (omega arith) j (omega arith))

-- where n slots hold frames, and n words are not 0, every other slot is 0
rest_zero : (bounds : Bounds) (s : List ℕ) (h n : ℕ) → n ≤ 128 → used_in s ≡ n → AllOk bounds (frames_from s h n) → (j : ℕ) → n ≤ j → j < 128 → get_or s ((h + j) % 128) 0 ≡ 0
rest_zero bounds s h n p u a j m l =
    let none : weighed used_of s (h + n) (128 - n) ≡ 0 = omega (arith, weigh_split used_of s h n p, all_used bounds s h n a) in
    let k : (h + n + (j - n)) % 128 ≡ (h + j) % 128 = omega arith in
    ap (λ (i : ℕ). get_or s i 0) (sym k) ∙ none_used s (h + n) (128 - n) none (j - n) (omega arith)

-- ---- the range by that count

module _ (bounds : Bounds) (capacity : ℕ) (q : Queue) where
  -- where a fact of a queue in range fails the test does
  pub out_of_range : (QueueOk bounds capacity q → ⊥) → false ≡ test (queue_ok bounds capacity q)
  out_of_range f = decided (queue_ok bounds capacity q) false (λ h. f (queue_facts bounds capacity q h))

  -- in a queue in range as many words are not 0 as frames are held
  pub used_count : QueueOk bounds capacity q → used_in q.slots ≡ q.count
  unfolding frames_of
  used_count ok = weigh_held used_of q.slots refl q.head q.count ok.count ok.rest ∙ all_used bounds q.slots q.head q.count ok.frames

  -- where they are as many, the frames and their bytes tell whether it is in range
  pub frames_tell : length q.slots ≡ 128 → q.head < 128 → q.count ≤ 128 → q.held ≤ capacity → used_in q.slots ≡ q.count →
      test (frames_ok bounds (frames_of q) ∧? sizes (frames_of q) ≡? q.held) ≡ test (queue_ok bounds capacity q)
  unfolding frames_of
  frames_tell len head count most used =
      same_test (frames_ok bounds (frames_of q) ∧? sizes (frames_of q) ≡? q.held) (queue_ok bounds capacity q)
      (λ h.
      let a = all_facts bounds (frames_of q) h.0 in
      queue_holds bounds capacity q (record { slots = len; head = head; count = count; frames = a; rest = rest_zero bounds q.slots q.head q.count count used a; held = sym h.1; most = most }))
      (λ h. let ok = queue_facts bounds capacity q h in (all_holds bounds (frames_of q) ok.frames, sym ok.held))
