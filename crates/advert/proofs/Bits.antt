-- The bits that a parse does not look at: what it finds follows from the others alone. Assumes nothing.
use mathlib.Core.Path.{◌≡◌, refl}
use mathlib.Core.List.{List, [], ◌∷◌}
use Prim.Native.Nat.{ℕ, ◌/◌, ◌%◌, ◌<◌}
use native.Mathlib.Omega.{arith}
use lib.ListN.{length}
use Rattle.decide.specs.Test.{test}
use Rattle.wire.specs.Wire.{be}
use Rattle.advert.specs.Frame.{ttl_in, address_in, rate_in, ringlet_in, type_in, kind_in, parsed_of}

-- two lists of bytes that are alike in all that a parse looks at
pub record Alike (xs ys : List ℕ) : Type 0 where
  pub same_length : length xs ≡ length ys
  pub same_ttl : ttl_in xs ≡ ttl_in ys
  pub same_ringlet : ringlet_in xs ≡ ringlet_in ys
  pub same_type : type_in xs ≡ type_in ys
  pub same_address : address_in xs ≡ address_in ys
  pub same_kind : kind_in xs ≡ kind_in ys
  pub same_rate : rate_in xs ≡ rate_in ys

pub parsed_alike : (xs ys : List ℕ) → Alike xs ys → parsed_of xs ≡ parsed_of ys
unfolding parsed_of test
parsed_alike xs ys s =
    rw (s.same_length, s.same_ttl, s.same_ringlet, s.same_type, s.same_address, s.same_kind, s.same_rate)

-- In a frame of 12 bytes base may change in bit 6 and bits 3 to 0, and the header in its low 13 bits: the same is found.
pub unlooked : (ttl base base' a b c d e f header header' low low' r s : ℕ) →
    base / 128 ≡ base' / 128 → base / 16 % 4 ≡ base' / 16 % 4 → header / 32 ≡ header' / 32 → low < 256 → low' < 256 →
    parsed_of (ttl ∷ base ∷ a ∷ b ∷ c ∷ d ∷ e ∷ f ∷ header ∷ low ∷ r ∷ s ∷ [])
    ≡ parsed_of (ttl ∷ base' ∷ a ∷ b ∷ c ∷ d ∷ e ∷ f ∷ header' ∷ low' ∷ r ∷ s ∷ [])
unfolding be
unlooked ttl base base' a b c d e f header header' low low' r s p q k h h' =
    parsed_alike _ _
    (record {
      same_length = refl;
      same_ttl = refl;
      same_ringlet = omega arith;
      same_type = omega arith;
      same_address = refl;
      same_kind = omega arith;
      same_rate = refl;
    })
