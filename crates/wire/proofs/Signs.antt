-- Two's complement: `signed_of` and `unsigned_of` are each other's inverse. Assumes nothing.
use mathlib.Core.Path.{◌≡◌, refl, ap, ◌∙◌}
use mathlib.Core.Logic.{⊎_elim}
use Prim.Native.Nat.{ℕ, zero, suc, ◌-◌, ◌^◌, ◌≤◌, ◌<◌}
use native.Mathlib.Omega.{arith}
use native.Mathlib.Nat.{zero-add, eq-zero-or-pos}
use borrow.Author.Tests.{lt-ltb, le-ltb}
use lib.IntN.{ℤ, pos, negsuc, ◌-ℤ◌}
use lib.Signed.{mag}
use mir.Syntax.{Width}
use mir.Val.{hbits, to_z}
use Rattle.wire.specs.Signed.{signed_of, unsigned_of}

-- counting down from -1, at every width
down_from : (m : ℕ) → negsuc 0 -ℤ pos m ≡ negsuc m
down_from zero = refl
down_from (suc m) = ap (λ (k : ℕ). negsuc (suc k)) (zero-add m)

pub downward : (w : Width) (m : ℕ) → m < 2 ^ hbits w → negsuc 0 -ℤ to_z w m ≡ negsuc m
downward w m h = rw (lt-ltb m (2 ^ hbits w) h) (down_from m)

-- the two rows of `signed_of`
pub signed_low : (n : ℕ) → n < 9223372036854775808 → signed_of n ≡ pos n
unfolding signed_of
signed_low n h = simp (lt-ltb n 9223372036854775808 h)

pub signed_high : (n : ℕ) → 9223372036854775808 ≤ n → signed_of n ≡ negsuc (18446744073709551615 - n)
unfolding signed_of
signed_high n h = simp (le-ltb n 9223372036854775808 h)

pub unsigned_signed : (n : ℕ) → n < 18446744073709551616 → unsigned_of (signed_of n) ≡ n
unfolding unsigned_of
unsigned_signed n h =
    ⊎_elim (λ g. ap unsigned_of (signed_high n (omega arith)) ∙ omega arith) (λ l. ap unsigned_of (signed_low n (omega arith)))
    (eq-zero-or-pos (9223372036854775808 - n))

pub signed_unsigned : (z : ℤ) → mag z < 9223372036854775808 → signed_of (unsigned_of z) ≡ z
unfolding unsigned_of
signed_unsigned (pos n) h = signed_low n h
signed_unsigned (negsuc m) h =
    let e : 18446744073709551615 - (18446744073709551615 - m) ≡ m = omega arith in
    signed_high (18446744073709551615 - m) (omega arith) ∙ ap negsuc e

-- what is stored fits 64 bits
pub unsigned_bound : (z : ℤ) → mag z < 9223372036854775808 → unsigned_of z < 18446744073709551616
unfolding unsigned_of
unsigned_bound (pos n) h = omega arith
unsigned_bound (negsuc m) h = omega arith
