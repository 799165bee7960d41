-- A frame and its word: each is read back from the other, since the parts of a word do not overlap; and the tests of both say the same.
-- Assumes nothing.
use Prim.Native.Nat.{ℕ, ◌+◌, ◌*◌, ◌/◌, ◌%◌, ◌<◌, ◌≤◌, min}
use mathlib.Core.Path.{◌≡◌, ap, ◌∙◌}
use mathlib.Core.Logic.{⊎_elim, inl, inr}
use mathlib.Core.Bool.{◌&&◌, ◌||◌}
use native.Mathlib.Omega.{arith}
use lib.Dec.{leb, ltb}
use Rattle.decide.specs.Test.{test, Holds, split, ◌≤?◌, ◌<?◌, ◌∧?◌, ◌∨?◌}
use Rattle.decide.proofs.Tests.{same_test}
use Rattle.queue.specs.declared.Bounds.{Bounds}
use Rattle.queue.specs.declared.Frame.{Frame}
use Rattle.queue.specs.Frame.{frame_ok, FrameOk, held_ok, HeldOk, BoundsOk, word_of, frame_of, FrameFits}

-- ---- the codec

low64 : (a b : ℕ) → a < 64 → (a + 64 * b) % 64 ≡ a
low64 a b h = omega arith

low4 : (a b : ℕ) → a < 4 → (a + 4 * b) % 4 ≡ a
low4 a b h = omega arith

-- the word without its cuts
plain : (f : Frame) → FrameFits f → word_of f ≡ f.size + f.hops * 16384 + f.class * 1048576 + f.mark * 4194304
plain f w = omega arith

parts : (a b c d : ℕ) → a < 16384 → b < 64 → c < 4 → frame_of (a + b * 16384 + c * 1048576 + d * 4194304) ≡ record { size = a; hops = b; class = c; mark = d }
parts a b c d p q r =
    let w = a + b * 16384 + c * 1048576 + d * 4194304 in
    let z : w % 16384 ≡ a = omega arith in
    let b₀ : w / 16384 ≡ b + 64 * (c + 4 * d) = omega arith in
    let h : w / 16384 % 64 ≡ b = ap (λ (n : ℕ). n % 64) b₀ ∙ low64 b (c + 4 * d) q in
    let c₀ : w / 1048576 ≡ c + 4 * d = omega arith in
    let k : w / 1048576 % 4 ≡ c = ap (λ (n : ℕ). n % 4) c₀ ∙ low4 c d r in
    let m : w / 4194304 ≡ d = omega arith in
    rw (z, h, k, m)

-- a frame whose numbers fit their bits is read back from its word
pub word_frame : (f : Frame) → FrameFits f → frame_of (word_of f) ≡ f
word_frame f w = ap frame_of (plain f w) ∙ parts f.size f.hops f.class f.mark w.size w.hops w.class

joined : (w : ℕ) → w % 16384 + w / 16384 % 64 * 16384 + w / 1048576 % 4 * 1048576 + w / 4194304 * 4194304 ≡ w
joined w = omega arith

-- and a word of 23 bits from its frame
pub frame_word : (w : ℕ) → w < 8388608 → word_of (frame_of w) ≡ w
frame_word w h =
    let a : w % 16384 % 16384 ≡ w % 16384 = omega arith in
    let b : w / 16384 % 64 % 64 ≡ w / 16384 % 64 = omega arith in
    let c : w / 1048576 % 4 % 4 ≡ w / 1048576 % 4 = omega arith in
    let d : w / 4194304 % 2 ≡ w / 4194304 = omega arith in
    rw (a, b, c, d) (joined w)

-- the word of a frame in range is not that of an empty slot
pub word_not_empty : {bounds : Bounds} {f : Frame} → BoundsOk bounds → FrameOk bounds f → 0 < word_of f
word_not_empty m r = omega (arith, r.least, r.most, m.mtu_most)

-- ---- the range

-- the test of a frame as facts, and back
pub frame_facts : (bounds : Bounds) (f : Frame) → Holds (frame_ok bounds f) → FrameOk bounds f
frame_facts bounds f h =
    record { least = h.0.0; most = h.0.1; hops = h.1.0; class = h.1.1.0; mark = h.1.1.1.0; marked = h.1.1.1.1 }

pub frame_holds : (bounds : Bounds) (f : Frame) → FrameOk bounds f → Holds (frame_ok bounds f)
frame_holds bounds f r = ((r.least, r.most), (r.hops, (r.class, (r.mark, r.marked))))

-- the same of a frame that may be held
pub held_facts : (bounds : Bounds) (f : Frame) → Holds (held_ok bounds f) → HeldOk bounds f
held_facts bounds f h = record { frame = frame_facts bounds f h.0; ring = h.1 }

pub held_holds : (bounds : Bounds) (f : Frame) → HeldOk bounds f → Holds (held_ok bounds f)
held_holds bounds f r = (frame_holds bounds f r.frame, r.ring)

-- a frame in range fits a word
pub frame_fits : {bounds : Bounds} {f : Frame} → BoundsOk bounds → FrameOk bounds f → FrameFits f
frame_fits m r = record { size = omega (arith, r.most, m.mtu_most); hops = omega (arith, r.hops); class = omega (arith, r.class); mark = omega (arith, r.mark) }

-- only B and C may be marked
pub a_unmarked : {bounds : Bounds} {f : Frame} → FrameOk bounds f → f.class ≡ 0 → f.mark ≡ 0
a_unmarked r e = omega (arith, r.marked)

-- class and mark tested as one number: 0, 1 or 2 without the mark, 5 or 6 with it
pub kinds : (w : ℕ) → (leb (w / 1048576) 2 || (leb 5 (w / 1048576) && leb (w / 1048576) 6)) ≡ (leb (w / 1048576 % 4) 2 && (leb (w / 4194304) 1 && leb (w / 4194304) (w / 1048576 % 4)))
unfolding test
kinds w =
    same_test (w / 1048576 ≤? 2 ∨? 5 ≤? w / 1048576 ∧? w / 1048576 ≤? 6) (w / 1048576 % 4 ≤? 2 ∧? w / 4194304 ≤? 1 ∧? w / 4194304 ≤? w / 1048576 % 4)
    (λ h. ⊎_elim (λ (l : w / 1048576 ≤ 2). (omega arith, (omega arith, omega arith))) (λ (l : (5 ≤ w / 1048576) × (w / 1048576 ≤ 6)). (omega arith, (omega arith, omega arith))) h)
    (λ h. ⊎_elim (λ (l : w / 1048576 ≤ 2). inl l) (λ l. inr (omega arith, omega arith)) (split (w / 1048576 ≤? 2)))

-- below the class: hops, and below them the size
low_parts : (w : ℕ) → w % 1048576 ≡ w % 16384 + w / 16384 % 64 * 16384
low_parts w = omega arith

-- hops tested with the size below them: at least one,
pub some_hops : (w : ℕ) → leb 16384 (w % 1048576) ≡ (leb 1 (w / 16384 % 64) && leb (w / 16384 % 64) 63)
unfolding test
some_hops w =
    same_test (16384 ≤? w % 1048576) (1 ≤? w / 16384 % 64 ∧? w / 16384 % 64 ≤? 63)
    (λ h. (omega (arith, low_parts w, h), omega arith)) (λ h. omega (arith, low_parts w, h.0))

-- and less than the first beyond the ring
pub ring_hops : (w stations : ℕ) → ltb (w % 1048576) (min stations 64 * 16384) ≡ ltb (w / 16384 % 64) stations
unfolding test
ring_hops w stations =
    same_test (w % 1048576 <? min stations 64 * 16384) (w / 16384 % 64 <? stations)
    (λ h. omega (arith, low_parts w, h)) (λ h. omega (arith, low_parts w, h))
