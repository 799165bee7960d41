-- The first four bytes of an event as one number say its length and kind, and the block reader's test of them is `good`.
-- Assumes nothing.
use Rattle.std.proofs.Common.{◌≡◌, ℕ, suc, ◌+◌, ◌-◌, ◌*◌, ◌/◌, ◌%◌, ◌<◌, ◌≤◌, Bool, false, not, ◌&&◌, ◌||◌, eqb, List, pos, negsuc, refl, ap, arith, w32, to_z, le-ltb, lt-ltb, eq-eqb, ne_eqb, le-leb}
use mathlib.Core.Bool.{or-false}
use borrow.Author.Tests.{lt-leb}
use lib.Signed.{lt_z}
use Rattle.decide.specs.Test.{test, split, ◌≡?◌}
use Rattle.decide.specs.Size.{size_ok}
use Rattle.decide.proofs.Cases.{by_cases, le_or}
use Rattle.wire.specs.Wire.{le, Bytes}
use Rattle.wire.proofs.Numbers.{le_add, le_bound, le_halves}
use Rattle.tally.specs.declared.Part.{Part}
use Rattle.tally.specs.Part.{grow_of}
use Rattle.record.specs.Read.{good}
use Rattle.account.specs.Lanes.{part_after}

module _ (mtu len kind num head : ℕ) (hl : len < 65536) (hk : kind < 65536) (e : head ≡ len + 65536 * kind) where
  -- the test as it is made
  abbrev tested : Bool
  tested = ((eqb head 196614 && test (size_ok num mtu)) || eqb head 131078) || eqb head 65542

  none : (head ≡ 196614 → ⊥) → (head ≡ 131078 → ⊥) → (head ≡ 65542 → ⊥) → tested ≡ false
  none a b c = simp (ne_eqb head 196614 a, ne_eqb head 131078 b, ne_eqb head 65542 c)

  of_six : len ≡ 6 → tested ≡ test (good mtu len kind num)
  unfolding test
  of_six z =
      by_cases (split (kind ≡? 3))
      (λ k. rw (z, k) (simp (eq-eqb head 196614 (omega arith), ne_eqb head 131078 (omega arith), ne_eqb head 65542 (omega arith), or-false)))
      (λ k. by_cases (split (kind ≡? 2))
      (λ j. rw (z, j) (simp (ne_eqb head 196614 (omega arith), eq-eqb head 131078 (omega arith))))
      (λ j. by_cases (split (kind ≡? 1))
      (λ i. rw (z, i) (simp (ne_eqb head 196614 (omega arith), ne_eqb head 131078 (omega arith), eq-eqb head 65542 (omega arith))))
      (λ i. rw (none (omega arith) (omega arith) (omega arith), z)
      (by_cases (le_or 1 kind) (λ h. simp (lt-leb kind 3 (omega arith), le-leb 1 kind h)) (λ h. simp (lt-leb 1 kind h))))))

  pub tested_good : tested ≡ test (good mtu len kind num)
  unfolding test
  tested_good = by_cases (split (len ≡? 6)) of_six (λ z. rw (none (omega arith) (omega arith) (omega arith), ne_eqb len 6 z) refl)

-- the signed number whose 32 bits are those of x
signed_low : (x : ℕ) → x < 2147483648 → to_z w32 x ≡ pos x
signed_low x h = simp (lt-ltb x 2147483648 h)

signed_high : (x : ℕ) → 2147483648 ≤ x → to_z w32 x ≡ negsuc (4294967295 - x)
signed_high x h = let e : 4294967296 - suc x ≡ 4294967295 - x = omega arith in rw (le-ltb x 2147483648 h) (ap negsuc e)

-- A number in the upper 16 of 32 bits is 16 to mtu exactly if it is not above mtu − 16 after 16 is taken off in 32 bits, both as signed numbers from the least on.
pub sized_by : (span tail : ℕ) → span ≤ 9200 → tail < 4294967296 →
    not (lt_z (to_z w32 (2147483648 + span * 65536 + 65535)) (to_z w32 ((tail + 2146435072) % 4294967296))) ≡ test (size_ok (tail / 65536) (span + 16))
unfolding test
sized_by span tail hs ht =
    let most = 2147483648 + span * 65536 + 65535 in
    let there = (tail + 2146435072) % 4294967296 in
    let high = signed_high most (omega arith) in
    by_cases (le_or 16 (tail / 65536))
    (λ h. by_cases (le_or (tail / 65536) (span + 16))
    (λ k. rw (high, signed_high there (omega arith)) (simp (le-ltb (4294967295 - there) (4294967295 - most) (omega arith), le-leb 16 (tail / 65536) h, le-leb (tail / 65536) (span + 16) k)))
    (λ k. by_cases (le_or 2147483648 there)
    (λ j. rw (high, signed_high there j) (simp (lt-ltb (4294967295 - there) (4294967295 - most) (omega arith), le-leb 16 (tail / 65536) h, lt-leb (tail / 65536) (span + 16) k)))
    (λ j. rw (high, signed_low there j) (simp (le-leb 16 (tail / 65536) h, lt-leb (tail / 65536) (span + 16) k)))))
    (λ h. rw (high, signed_low there (omega arith)) (simp (lt-leb 16 (tail / 65536) h)))

-- ---- at a place

module _ (xs : List ℕ) (at : ℕ) (b : Bytes xs) where
  pub head_at : le 4 xs at ≡ le 2 xs at + 65536 * le 2 xs (at + 2)
  head_at = le_add 2 2 xs at

  -- the number is what stands above the kind
  pub number_at : le 4 xs (at + 2) / 65536 ≡ le 2 xs (at + 4)
  number_at = let k : at + 2 + 2 ≡ at + 4 = omega arith in rw k at (le_halves xs (at + 2) b).1

  pub tested_at : (mtu : ℕ) →
      (((eqb (le 4 xs at) 196614 && test (size_ok (le 2 xs (at + 4)) mtu)) || eqb (le 4 xs at) 131078) || eqb (le 4 xs at) 65542)
      ≡ test (good mtu (le 2 xs at) (le 2 xs (at + 2)) (le 2 xs (at + 4)))
  tested_at mtu = tested_good mtu (le 2 xs at) (le 2 xs (at + 2)) (le 2 xs (at + 4)) (le 4 xs at) (le_bound 2 xs at b) (le_bound 2 xs (at + 2) b) head_at

-- the part behind an event, by what was read of it
pub after_is : (rise mtu : ℕ) (xs : List ℕ) (at : ℕ) (p : Part) (head v : ℕ) (fine : Bool) → head ≡ le 4 xs at → v ≡ le 2 xs (at + 4) →
    fine ≡ test (good mtu (le 2 xs at) (le 2 xs (at + 2)) (le 2 xs (at + 4))) → grow_of rise (eqb head 196614) (eqb head 131078) v fine p ≡ part_after rise mtu xs at p
after_is rise mtu xs at p head v fine a b c = rw (a, b, c) refl
