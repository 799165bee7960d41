-- The frames of slots round the ring: taken apart at either end, and what is summed over them, which over the whole ring is the same from every slot on.
-- Assumes nothing.
use Prim.Native.Nat.{ℕ, zero, suc, ◌+◌, ◌*◌, ◌-◌, ◌%◌, ◌<◌, ◌≤◌}
use mathlib.Core.Path.{◌≡◌, refl, ap, sym, ◌∙◌}
use mathlib.Core.List.{List, [], ◌∷◌, ◌++◌}
use native.Mathlib.Nat.{add-zero, mod-eq_of_lt}
use native.Mathlib.Numerals.{add-one}
use native.Mathlib.Omega.{arith}
use lib.ListN.{length, get_or, set}
use lib.Seq.{get_or-set_other}
use Rattle.queue.specs.declared.Bounds.{Bounds}
use Rattle.queue.specs.declared.Frame.{Frame}
use Rattle.queue.specs.Frame.{frame_of, HeldOk}
use Rattle.queue.specs.Queue.{frames_from, sizes}
use Rattle.queue.specs.Range.{AllOk, weighed}

-- the head counts by its remainder alone
pub from_mod : (s : List ℕ) (h k n : ℕ) → h % 128 ≡ k % 128 → frames_from s h n ≡ frames_from s k n
unfolding frames_from
from_mod s h k zero e = refl
from_mod s h k (suc n) e = rw (e, from_mod s (suc h) (suc k) n (omega arith))

-- a store outside the frames held changes none of them
pub from_set : (s : List ℕ) (i w h n : ℕ) → ((j : ℕ) → j < n → (h + j) % 128 ≡ i → ⊥) → frames_from (set s i w) h n ≡ frames_from s h n
unfolding frames_from
from_set s i w h zero out = refl
from_set s i w h (suc n) out =
    rw (get_or-set_other s i (h % 128) w 0 (λ e. out 0 (omega arith) (omega arith)), from_set s i w (suc h) n (λ j l e. out (suc j) (omega arith) (omega arith)))

pub from_append : (s : List ℕ) (h n k : ℕ) → frames_from s h (n + k) ≡ frames_from s h n ++ frames_from s (h + n) k
unfolding frames_from
from_append s h zero k = let e : 0 + k ≡ k = omega arith in rw (e, add-zero)
from_append s h (suc n) k =
    let e : suc n + k ≡ suc (n + k) = omega arith in
    rw (e, from_append s (suc h) n k, from_mod s (suc h + n) (h + suc n) k (omega arith))

pub from_snoc : (s : List ℕ) (h n : ℕ) → frames_from s h (suc n) ≡ frames_from s h n ++ (frame_of (get_or s ((h + n) % 128) 0) ∷ [])
unfolding frames_from
from_snoc s h n = let e : suc n ≡ n + 1 = omega arith in ap (frames_from s h) e ∙ from_append s h n 1

-- the frames of the slots from i on that stand before slot `to`: one more, and none
pub from_more : (s : List ℕ) (i to : ℕ) → i < to → i < 128 → frames_from s i (to - i) ≡ frame_of (get_or s i 0) ∷ frames_from s (i + 1) (to - (i + 1))
unfolding frames_from
from_more s i to p l = let e : to - i ≡ suc (to - (i + 1)) = omega arith in rw (e, mod-eq_of_lt l, add-one i)

pub from_done : (s : List ℕ) (i to : ℕ) → to ≤ i → frames_from s i (to - i) ≡ []
unfolding frames_from
from_done s i to p = let e : to - i ≡ 0 = omega arith in rw e

pub from_length : (s : List ℕ) (h n : ℕ) → length (frames_from s h n) ≡ n
unfolding frames_from
from_length s h zero = refl
from_length s h (suc n) = ap suc (from_length s (suc h) n)

pub sizes_append : (fs gs : List Frame) → sizes (fs ++ gs) ≡ sizes fs + sizes gs
unfolding sizes
sizes_append [] gs = omega arith
sizes_append (f ∷ fs) gs = omega (arith, sizes_append fs gs)

-- a size has 14 bits
pub sizes_most : (s : List ℕ) (h n : ℕ) → sizes (frames_from s h n) ≤ n * 16384
unfolding frames_from sizes
sizes_most s h zero = omega arith
sizes_most s h (suc n) = omega (arith, sizes_most s (suc h) n)

-- ---- a weight summed over slots

module _ (weight : ℕ → ℕ) (s : List ℕ) where
  weigh_append : (h n k : ℕ) → weighed weight s h (n + k) ≡ weighed weight s h n + weighed weight s (h + n) k
  unfolding weighed
  weigh_append h zero k = let e : 0 + k ≡ k = omega arith in rw (e, add-zero) (omega arith)
  weigh_append h (suc n) k =
      let e : suc n + k ≡ suc (n + k) = omega arith in
      let i : suc h + n ≡ h + suc n = omega arith in
      rw e (omega (arith, weigh_append (suc h) n k, ap (λ (m : ℕ). weighed weight s m k) i))

  -- the slots from i on: one more, and none
  pub weigh_more : (i : ℕ) → i < 128 → weighed weight s i (128 - i) ≡ weight (get_or s i 0) + weighed weight s (i + 1) (128 - (i + 1))
  unfolding weighed
  weigh_more i p = let e : 128 - i ≡ suc (128 - (i + 1)) = omega arith in rw (e, mod-eq_of_lt p, add-one i)

  pub weigh_done : (i : ℕ) → 128 ≤ i → weighed weight s i (128 - i) ≡ 0
  unfolding weighed
  weigh_done i p = let e : 128 - i ≡ 0 = omega arith in rw e

  -- the sum over the whole ring is the same from every slot
  rotate : (h n : ℕ) → n % 128 ≡ 0 → weighed weight s (suc h) n ≡ weighed weight s h n
  unfolding weighed
  rotate h n e =
      let k : (h + n) % 128 ≡ h % 128 = omega arith in
      let o : suc n ≡ n + 1 = omega arith in
      omega (arith, ap (weighed weight s h) o, weigh_append h n 1, ap (λ (i : ℕ). weight (get_or s i 0)) k)

  ring_sum : (h : ℕ) → weighed weight s h 128 ≡ weighed weight s 0 128
  ring_sum zero = refl
  ring_sum (suc h) = rotate h 128 (omega arith) ∙ ring_sum h

  -- it is that of the n slots from slot h on, and of the others
  pub weigh_split : (h n : ℕ) → n ≤ 128 → weighed weight s 0 128 ≡ weighed weight s h n + weighed weight s (h + n) (128 - n)
  weigh_split h n p =
      let e : 128 ≡ n + (128 - n) = omega arith in
      sym (ring_sum h) ∙ ap (weighed weight s h) e ∙ weigh_append h n (128 - n)

  module _ (none : weight 0 ≡ 0) where
    weigh_zero : (h n : ℕ) → ((j : ℕ) → j < n → get_or s ((h + j) % 128) 0 ≡ 0) → weighed weight s h n ≡ 0
    unfolding weighed
    weigh_zero h zero z = refl
    weigh_zero h (suc n) z =
        let e : h % 128 ≡ (h + 0) % 128 = omega arith in
        let a : get_or s (h % 128) 0 ≡ 0 = ap (λ (i : ℕ). get_or s i 0) e ∙ z 0 (omega arith) in
        let step : (j : ℕ) → j < n → get_or s ((suc h + j) % 128) 0 ≡ 0 = λ j l. let k : (suc h + j) % 128 ≡ (h + suc j) % 128 = omega arith in ap (λ (i : ℕ). get_or s i 0) k ∙ z (suc j) (omega arith) in
        omega (arith, ap weight a, none, weigh_zero (suc h) n step)

    -- where every other slot is 0, the sum over the ring is the sum over the n slots
    pub weigh_held : (h n : ℕ) → n ≤ 128 → ((j : ℕ) → n ≤ j → j < 128 → get_or s ((h + j) % 128) 0 ≡ 0) → weighed weight s 0 128 ≡ weighed weight s h n
    weigh_held h n p z =
        let step : (j : ℕ) → j < 128 - n → get_or s ((h + n + j) % 128) 0 ≡ 0 = λ j l. let k : (h + n + j) % 128 ≡ (h + (n + j)) % 128 = omega arith in ap (λ (i : ℕ). get_or s i 0) k ∙ z (n + j) (omega arith) (omega arith) in
        omega (arith, weigh_split h n p, weigh_zero (h + n) (128 - n) step)

-- the bytes of frames are such a sum
sizes_weighed : (s : List ℕ) (h n : ℕ) → sizes (frames_from s h n) ≡ weighed (λ (w : ℕ). (frame_of w).size) s h n
unfolding frames_from sizes weighed
sizes_weighed s h zero = refl
sizes_weighed s h (suc n) = omega (arith, sizes_weighed s (suc h) n)

pub zero_sizes : (s : List ℕ) (h n : ℕ) → ((j : ℕ) → j < n → get_or s ((h + j) % 128) 0 ≡ 0) → sizes (frames_from s h n) ≡ 0
zero_sizes s h n z = sizes_weighed s h n ∙ weigh_zero (λ (w : ℕ). (frame_of w).size) s refl h n z

-- where every other slot is 0, the sum over the ring is the sum over the frames held
pub held_sum : (s : List ℕ) (h n : ℕ) → n ≤ 128 → ((j : ℕ) → n ≤ j → j < 128 → get_or s ((h + j) % 128) 0 ≡ 0) → sizes (frames_from s 0 128) ≡ sizes (frames_from s h n)
held_sum s h n p z = sizes_weighed s 0 128 ∙ weigh_held (λ (w : ℕ). (frame_of w).size) s refl h n p z ∙ sym (sizes_weighed s h n)

-- the frames one by one, and all
pub all_in : (bounds : Bounds) (s : List ℕ) (h n : ℕ) → ((j : ℕ) → j < n → HeldOk bounds (frame_of (get_or s ((h + j) % 128) 0))) → AllOk bounds (frames_from s h n)
unfolding frames_from
all_in bounds s h zero f = tt
all_in bounds s h (suc n) f =
    let e : h % 128 ≡ (h + 0) % 128 = omega arith in
    (rw e (f 0 (omega arith)), all_in bounds s (suc h) n (λ j l. let k : (suc h + j) % 128 ≡ (h + suc j) % 128 = omega arith in rw k (f (suc j) (omega arith))))

pub in_all : (bounds : Bounds) (s : List ℕ) (h n : ℕ) → AllOk bounds (frames_from s h n) → (j : ℕ) → j < n → HeldOk bounds (frame_of (get_or s ((h + j) % 128) 0))
unfolding frames_from
in_all bounds s h zero a j l = absurd (omega arith)
in_all bounds s h (suc n) a zero l = let e : (h + 0) % 128 ≡ h % 128 = omega arith in rw e a.0
in_all bounds s h (suc n) a (suc j) l = let k : (h + suc j) % 128 ≡ (suc h + j) % 128 = omega arith in rw k (in_all bounds s (suc h) n a.1 j (omega arith))
