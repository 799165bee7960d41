-- The bytes of an answer are those that were packed, where each fits its byte.
-- Assumes nothing.
use Prim.Native.Nat.{ℕ, zero, suc, ◌+◌, ◌*◌, ◌/◌, ◌%◌, ◌^◌, ◌<◌, ◌≤◌}
use mathlib.Core.Bool.{Bool, true, false}
use mathlib.Core.List.{List, [], ◌∷◌}
use mathlib.Core.Path.{◌≡◌, refl, sym, ap, ◌∙◌}
use native.Mathlib.Omega.{arith}
use native.Mathlib.Nat.{pow-suc}
use lib.ListN.{length}
use Rattle.wire.specs.Wire.{digits}
use Rattle.wire.proofs.Numbers.{digits_mod}
use Rattle.answer.specs.Bytes.{packed, bit_of}

abbrev pub EachByte : List ℕ → Type 0
EachByte [] = Unit {0}
EachByte (b ∷ bs) = (b < 256) × EachByte bs

pub packed_bytes : (bs : List ℕ) → EachByte bs → digits (length bs) (packed bs) ≡ bs
unfolding digits
packed_bytes [] h = refl
packed_bytes (b ∷ bs) h =
    let m : (b % 256 + 256 * packed bs) % 256 ≡ b = omega arith in
    let d : (b % 256 + 256 * packed bs) / 256 ≡ packed bs = omega arith in
    rw (m, d) (ap (λ (l : List ℕ). b ∷ l) (packed_bytes bs h.1))

-- a number that fits its bytes is the one that they make
pub packed_digits : (n v : ℕ) → v < 256 ^ n → packed (digits n v) ≡ v
unfolding digits
packed_digits zero v h = omega arith
packed_digits (suc n) v h = omega (arith, packed_digits n (v / 256) (omega (arith, pow-suc 256 n)))

-- one that does not is cut to them
pub packed_cut : (v : ℕ) → packed (digits 4 v) ≡ v % 4294967296
packed_cut v = ap packed (sym (digits_mod 4 v)) ∙ packed_digits 4 (v % 4294967296) (omega arith)

pub bit_most : (b : Bool) → bit_of b ≤ 1
unfolding bit_of
bit_most true = omega arith
bit_most false = omega arith
