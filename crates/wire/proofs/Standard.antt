-- What std reads from bytes and what it writes as bytes is what `le`, `be`, `digits` and `digits_be` say; and its signed numbers are those
-- of `signed_of` and `unsigned_of`. Assumes nothing.
use mathlib.Core.Path.{◌≡◌, refl, sym, ap, ◌∙◌}
use mathlib.Core.Bool.{cond}
use mathlib.Core.List.{List}
use Prim.Native.Nat.{ℕ, zero, suc, ◌+◌, ◌-◌, ◌/◌, ◌%◌, ◌^◌}
use native.Mathlib.Omega.{arith}
use native.Mathlib.Nat.{zero-add, pow-suc, mul_comm, div-one, div-div-eq-div-mul}
use lib.ListN.{get_or, take, drop}
use lib.Seq.{get_or-drop, get_or-take}
use Rattle.std.specs.Int.{byte_at, byte_worth, bytes_low_first, bytes_high_first, sum_through}
use Rattle.std.specs.Prelude.{slice_index}
use lib.Dec.{ltb}
use lib.IntN.{ℤ, pos, negsuc}
use mir.Syntax.{w64}
use mir.Val.{to_z, of_z}
use Rattle.wire.specs.Signed.{signed_of, unsigned_of}
use Rattle.wire.specs.Wire.{le, be, digits, digits_be}
use Rattle.wire.proofs.Numbers.{le_same, be_same, le_add, digits_be_add}

-- ---- numbers read

-- the n bytes of xs from at on, taken by themselves, are the same number
pub le_taken : (n : ℕ) (xs : List ℕ) (at : ℕ) → le n (take n (drop at xs)) 0 ≡ le n xs at
le_taken n xs at = le_same n (take n (drop at xs)) xs 0 at (λ i l. rw zero-add (get_or-take n (drop at xs) i 0 l ∙ get_or-drop at xs i 0))

pub be_taken : (n : ℕ) (xs : List ℕ) (at : ℕ) → be n (take n (drop at xs)) 0 ≡ be n xs at
be_taken n xs at = be_same n (take n (drop at xs)) xs 0 at (λ i l. rw zero-add (get_or-take n (drop at xs) i 0 l ∙ get_or-drop at xs i 0))

-- bytes, each by its worth, least first
le_one : (xs : List ℕ) (at : ℕ) → le (suc zero) xs at ≡ get_or xs at 0
unfolding le
le_one xs at = omega arith

pub le_sum : (k : ℕ) (xs : List ℕ) → sum_through (λ i. byte_worth i (slice_index xs i)) k ≡ le (suc k) xs 0
le_sum zero xs = sym (le_one xs 0)
le_sum (suc k) xs =
    let e : suc (suc k) ≡ suc k + suc zero = omega arith in
    rw (e, le_add, le_one, zero-add, le_sum k xs, mul_comm (256 ^ suc k)) refl

-- ---- numbers written

byte_of : (i v : ℕ) → byte_at i v ≡ (v / 256 ^ i) % 256
byte_of zero v = rw div-one
byte_of (suc i) v = refl

digits_low : (n i v : ℕ) → bytes_low_first i n v ≡ digits n (v / 256 ^ i)
unfolding digits
digits_low zero i v = refl
digits_low (suc n) i v = rw (byte_of i v, digits_low n (suc i) v, div-div-eq-div-mul, pow-suc)

pub written : (n v : ℕ) → bytes_low_first 0 n v ≡ digits n v
written n v = digits_low n 0 v ∙ ap (λ (u : ℕ). digits n u) (div-one v)

pub written_be : (n v : ℕ) → bytes_high_first n v ≡ digits_be n v
unfolding digits digits_be
written_be zero v = refl
written_be (suc n) v =
    let e : suc n ≡ suc zero + n = omega arith in
    rw (byte_of n v, written_be n v) (sym (ap (λ (k : ℕ). digits_be k v) e ∙ digits_be_add (suc zero) n v))

-- ---- signed numbers

pub signed_same : (n : ℕ) → to_z w64 n ≡ signed_of n
unfolding signed_of
signed_same n =
    let e : 18446744073709551616 - suc n ≡ 18446744073709551615 - n = omega arith in
    ap (λ (m : ℕ). cond (ltb n 9223372036854775808) (pos n) (negsuc m)) e

pub unsigned_same : (z : ℤ) → of_z w64 z ≡ unsigned_of z
unfolding unsigned_of
unsigned_same (pos n) = refl
unsigned_same (negsuc m) = omega arith
