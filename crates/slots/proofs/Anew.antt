-- One part of a layout anew: a put of its bytes at its place, and all others stay. So with one slot of a queue, and the numbers behind the slots.
-- Assumes nothing.
use Prim.Native.Nat.{ℕ, zero, suc, ◌+◌, ◌*◌, ◌%◌, ◌≤◌, ◌<◌}
use mathlib.Core.List.{List, [], ◌∷◌, ◌++◌, append_assoc}
use mathlib.Core.Path.{◌≡◌, refl, sym, ap, ◌∙◌}
use native.Mathlib.Nat.{zero-add, add-zero, add_assoc}
use native.Mathlib.Omega.{arith}
use lib.ListN.{length, get_or, take, drop, set, length-set}
use lib.Seq.{length-take-le, drop-append_seam, take-append-le, drop-append-le, take-append-add, drop-append-add}
use Rattle.wire.specs.Wire.{le, digits, put, Bytes, length_digits}
use Rattle.wire.specs.Parts.{Part, number, laid_out, nth, offset}
use Rattle.wire.proofs.Puts.{length_put}
use Rattle.wire.proofs.Places.{put_stands}
use Rattle.wire.proofs.Numbers.{digits_mod}
use Rattle.queue.specs.declared.Frame.{Frame}
use Rattle.queue.specs.declared.Queue.{Queue}
use Rattle.queue.specs.Frame.{word_of}
use Rattle.queue.specs.Queue.{pushed}
use Rattle.slots.specs.Slots.{queue_length, queue_bytes, queue_parts, queue_length_lem, queue_at, slot_anew}
use Rattle.wire.specs.Words.{words_bytes, words_length, words_at}
use Rattle.slots.proofs.Round.{slots_length, queue_stand}

-- ---- parts

-- parts, the k-th of them anew
abbrev pub anew : List Part → ℕ → Part → List Part
anew [] k p = []
anew (q ∷ qs) zero p = p ∷ qs
anew (q ∷ qs) (suc k) p = q ∷ anew qs k p

-- a put of as many bytes as stand first; a put behind some bytes, and one before others
put_first : (xs ys bs : List ℕ) → length bs ≡ length xs → put (xs ++ ys) 0 bs ≡ bs ++ ys
unfolding put
put_first xs ys bs e = rw (zero-add, e, drop-append_seam)

put_behind : (xs ys bs : List ℕ) (at : ℕ) → put (xs ++ ys) (length xs + at) bs ≡ xs ++ put ys at bs
unfolding put
put_behind xs ys bs at = rw (take-append-add, add_assoc, drop-append-add) (simp append_assoc)

put_before : (xs ys bs : List ℕ) (at : ℕ) → at + length bs ≤ length xs → put (xs ++ ys) at bs ≡ put xs at bs ++ ys
unfolding put
put_before xs ys bs at h =
    let l : at ≤ length xs = omega arith in
    rw (take-append-le at xs ys, drop-append-le (at + length bs) xs ys) (simp append_assoc)

-- a put of one part at its place
pub put_anew : (ps : List Part) (k : ℕ) (p : Part) → k < length ps → p.size ≡ (nth ps k).size → put (laid_out ps) (offset ps k) p.bytes ≡ laid_out (anew ps k p)
put_anew [] k p h e = absurd (omega arith)
put_anew (q ∷ qs) zero p h e = put_first q.bytes (laid_out qs) p.bytes (omega (arith, p.sized, q.sized))
put_anew (q ∷ qs) (suc k) p h e =
    ap (λ (n : ℕ). put (q.bytes ++ laid_out qs) (n + offset qs k) p.bytes) (sym q.sized)
    ∙ put_behind q.bytes (laid_out qs) p.bytes (offset qs k)
    ∙ ap (λ (l : List ℕ). q.bytes ++ l) (put_anew qs k p (omega arith) e)

put_open : (xs : List ℕ) (at : ℕ) (cs : List ℕ) → put xs at cs ≡ take at xs ++ (cs ++ drop (at + length cs) xs)
unfolding put
put_open xs at cs = append_assoc (take at xs) cs (drop (at + length cs) xs)

-- a put within what was put
put_within : (xs cs bs : List ℕ) (at k : ℕ) → at + length cs ≤ length xs → k + length bs ≤ length cs → put (put xs at cs) (at + k) bs ≡ put xs at (put cs k bs)
put_within xs cs bs at k h l =
    let e : length (take at xs) ≡ at = length-take-le at xs (omega arith) in
    ap (λ (r : List ℕ). put r (at + k) bs) (put_open xs at cs)
    ∙ ap (λ (n : ℕ). put (take at xs ++ (cs ++ drop (at + length cs) xs)) (n + k) bs) (sym e)
    ∙ put_behind (take at xs) (cs ++ drop (at + length cs) xs) bs k
    ∙ ap (λ (r : List ℕ). take at xs ++ r) (put_before cs (drop (at + length cs) xs) bs k l)
    ∙ ap (λ (n : ℕ). take at xs ++ (put cs k bs ++ drop (at + n) xs)) (sym (length_put cs bs k l))
    ∙ sym (put_open xs at (put cs k bs))

-- ---- a queue

-- a put of one word among words
slot_put : (ws : List ℕ) (i w : ℕ) → i < length ws → put (words_bytes ws) (4 * i) (digits 4 w) ≡ words_bytes (set ws i w)
unfolding words_bytes
slot_put [] i w h = absurd (omega arith)
slot_put (v ∷ ws) zero w h = put_first (digits 4 v) (words_bytes ws) (digits 4 w) (omega (arith, length_digits 4 v, length_digits 4 w))
slot_put (v ∷ ws) (suc i) w h =
    let e : 4 * suc i ≡ length (digits 4 v) + 4 * i = omega (arith, length_digits 4 v) in
    ap (λ (n : ℕ). put (digits 4 v ++ words_bytes ws) n (digits 4 w)) e
    ∙ put_behind (digits 4 v) (words_bytes ws) (digits 4 w) (4 * i)
    ∙ ap (λ (l : List ℕ). digits 4 v ++ l) (slot_put ws i w (omega arith))

-- in the bytes of a queue: a slot, the bytes held, the head, the count
module _ (q : Queue) (e : length q.slots ≡ 128) where
  in_slots : (i w : ℕ) → i < 128 → put (queue_bytes q) (4 * i) (digits 4 w) ≡ queue_bytes (slot_anew q i w q.held q.head q.count)
  unfolding queue_bytes
  in_slots i w h =
      put_before (words_bytes q.slots) (laid_out (number 4 q.held ∷ number 1 q.head ∷ number 1 q.count ∷ [])) (digits 4 w) (4 * i)
      (omega (arith, words_length q.slots, length_digits 4 w))
      ∙ ap (λ (l : List ℕ). l ++ laid_out (number 4 q.held ∷ number 1 q.head ∷ number 1 q.count ∷ [])) (slot_put q.slots i w (omega arith))

  held_put : (v : ℕ) → put (queue_bytes q) 512 (digits 4 v) ≡ queue_bytes (record { slots = q.slots; head = q.head; count = q.count; held = v })
  unfolding queue_bytes
  held_put v = put_anew (queue_parts q e) 1 (number 4 v) (omega arith) refl

  head_put : (v : ℕ) → put (queue_bytes q) 516 (digits 1 v) ≡ queue_bytes (record { slots = q.slots; head = v; count = q.count; held = q.held })
  unfolding queue_bytes
  head_put v = put_anew (queue_parts q e) 2 (number 1 v) (omega arith) refl

  count_put : (v : ℕ) → put (queue_bytes q) 517 (digits 1 v) ≡ queue_bytes (record { slots = q.slots; head = q.head; count = v; held = q.held })
  unfolding queue_bytes
  count_put v = put_anew (queue_parts q e) 3 (number 1 v) (omega arith) refl

-- where the bytes of a queue stand, one part of them anew
module _ (xs : List ℕ) (at : ℕ) (h : at + queue_length ≤ length xs) where
  there : (q : Queue) → length q.slots ≡ 128 → (k : ℕ) (bs : List ℕ) → k + length bs ≤ queue_length → (r : Queue) → put (queue_bytes q) k bs ≡ queue_bytes r
      → (ys : List ℕ) → ys ≡ put xs at (queue_bytes q) → put ys (at + k) bs ≡ put xs at (queue_bytes r)
  there q e k bs l r p ys s =
      let n : length (queue_bytes q) ≡ queue_length = queue_length_lem q e in
      ap (λ (zs : List ℕ). put zs (at + k) bs) s
      ∙ put_within xs (queue_bytes q) bs at k (omega arith) (omega arith)
      ∙ ap (λ (zs : List ℕ). put xs at zs) p

  -- one slot, and the numbers behind the slots
  pub slot_written : Bytes xs → (i w held head count : ℕ) → i < 128 →
      put (put (put (put xs (at + 4 * i) (digits 4 w)) (at + 512) (digits 4 held)) (at + 516) (digits 1 head)) (at + 517) (digits 1 count)
      ≡ put xs at (queue_bytes (slot_anew (queue_at xs at) i w held head count))
  slot_written b i w held head count l =
      let q : Queue = queue_at xs at in
      let e : length (queue_at xs at).slots ≡ 128 = slots_length xs at in
      let f : length (set (queue_at xs at).slots i w) ≡ 128 = simp length-set e in
      let q1 : Queue = slot_anew q i w q.held q.head q.count in
      let q2 : Queue = slot_anew q i w held q.head q.count in
      let q3 : Queue = slot_anew q i w held head q.count in
      let a0 = sym (put_stands xs (queue_bytes q) at (omega (arith, queue_length_lem q e)) (queue_stand xs b at h)) in
      let a1 = there q e (4 * i) (digits 4 w) (omega (arith, length_digits 4 w)) q1 (in_slots q e i w l) _ a0 in
      let a2 = there q1 f 512 (digits 4 held) (omega (arith, length_digits 4 held)) q2 (held_put q1 f held) _ a1 in
      let a3 = there q2 f 516 (digits 1 head) (omega (arith, length_digits 1 head)) q3 (head_put q2 f head) _ a2 in
      there q3 f 517 (digits 1 count) (omega (arith, length_digits 1 count)) (slot_anew q i w held head count) (count_put q3 f count) _ a3

-- ---- pushing and taking

-- numbers that are cut to their bytes have the same bytes
pub pushed_bytes : (q : Queue) (f : Frame) →
    queue_bytes (slot_anew q ((q.head + q.count) % 128) (word_of f) ((q.held + f.size) % 4294967296) q.head ((q.count + 1) % 256)) ≡ queue_bytes (pushed q f)
unfolding queue_bytes pushed
pushed_bytes q f = rw (digits_mod 4 (q.held + f.size), digits_mod 1 (q.count + 1))

-- a word is read at its place
pub words_get : (n : ℕ) (xs : List ℕ) (at i : ℕ) → i < n → get_or (words_at n xs at) i 0 ≡ le 4 xs (at + 4 * i)
unfolding words_at
words_get zero xs at i h = absurd (omega arith)
words_get (suc n) xs at zero h = rw add-zero
words_get (suc n) xs at (suc i) h =
    let e : at + 4 + 4 * i ≡ at + 4 * suc i = omega arith in
    words_get n xs (at + 4) i (omega arith) ∙ ap (le 4 xs) e

-- and so is that of a slot
pub slot_get : (xs : List ℕ) (at i : ℕ) → i < 128 → get_or (queue_at xs at).slots i 0 ≡ le 4 xs (at + 4 * i)
unfolding queue_at
slot_get xs at i h = words_get 128 xs at i h
