-- A written frame is read back: each part stands at its place, and its number fits it. Assumes nothing.
use mathlib.Core.Path.{◌≡◌, refl, ap, ◌∙◌}
use mathlib.Core.List.{List}
use Prim.Native.Nat.{ℕ, ◌+◌, ◌/◌, ◌%◌, ◌^◌, ◌<◌}
use native.Mathlib.Omega.{arith}
use lib.ListN.{length}
use Rattle.decide.specs.Test.{passes}
use Rattle.wire.specs.Wire.{be, Bytes}
use Rattle.wire.specs.Parts.{number_be, laid_out, nth, offset, length_laid_out}
use Rattle.wire.proofs.Places.{Stands, stands_whole}
use Rattle.wire.proofs.Numbers.{be_bound}
use Rattle.wire.proofs.Laid.{be_part}
use Rattle.advert.specs.declared.Advert.{Advert}
use Rattle.std.specs.Prelude.{Ok}
use Rattle.advert.specs.Frame.{advert_length, base_of, address_of, parts_of, advert_bytes, AdvertFits}
use Rattle.advert.specs.Frame.{ttl_in, base_in, address_in, header_in, rate_in, ringlet_in, whole, advert_in, parsed_of}
use Rattle.advert.proofs.Parsing.{parsed_whole}

pub written_length : (a : Advert) → length (advert_bytes a) ≡ advert_length
unfolding advert_bytes
written_length a = length_laid_out (parts_of a)

stand : (a : Advert) → Stands (advert_bytes a) 0 (laid_out (parts_of a))
unfolding advert_bytes
stand a = stands_whole (laid_out (parts_of a))

-- a number that is the k-th part, and fits it, is read at the part's place
back : (a : Advert) (k w v : ℕ) → (nth (parts_of a) k).bytes ≡ (number_be w v).bytes → v < 256 ^ w →
    be w (advert_bytes a) (0 + offset (parts_of a) k) ≡ v
back a k w v e h = be_part (parts_of a) k w v (advert_bytes a) 0 e h (stand a)

-- base and header as they are written, with all their bits
pub written_base : (a : Advert) → base_in (advert_bytes a) ≡ base_of a
written_base a = back a 1 1 (base_of a) refl (omega arith)

pub written_header : (a : Advert) → header_in (advert_bytes a) ≡ 0
written_header a = back a 3 2 0 refl (omega arith)

-- Other bits are written 0: base's bit 6 and bits 3 to 0, and the header's low 13 bits.
pub written_bare : (a : Advert) →
    (base_in (advert_bytes a) / 64 % 2 ≡ 0) × (base_in (advert_bytes a) % 16 ≡ 0) × (header_in (advert_bytes a) % 8192 ≡ 0)
written_bare a = let b = written_base a in let h = written_header a in (omega arith, omega arith, omega arith)

pub written_whole : (a : Advert) → parsed_of (advert_bytes a) ≡ Ok (advert_in (advert_bytes a))
written_whole a =
    let b = written_base a in
    let h = written_header a in
    parsed_whole (advert_bytes a) (passes (whole (advert_bytes a)) (written_length a, (omega arith, omega arith)))

module _ (a : Advert) (f : AdvertFits a) where
  address_back : address_in (advert_bytes a) ≡ address_of a
  address_back = back a 2 6 (address_of a) refl (omega arith)

  said : advert_in (advert_bytes a) ≡ a
  said =
      let b = written_base a in
      let d = address_back in
      let ringlet : ringlet_in (advert_bytes a) ≡ a.ringlet = omega arith in
      let ttl : ttl_in (advert_bytes a) ≡ a.ttl = back a 0 1 a.ttl refl f.ttl_fits in
      let high : address_in (advert_bytes a) / 4294967296 ≡ a.high = omega arith in
      let low : address_in (advert_bytes a) % 4294967296 ≡ a.low = omega arith in
      let rate : rate_in (advert_bytes a) ≡ a.rate = back a 4 2 a.rate refl f.rate_fits in
      rw (ringlet, ttl, high, low, rate)

  -- Reading a written frame gives back its ringlet bit, ttl, address and rate.
  pub parse_written : parsed_of (advert_bytes a) ≡ Ok a
  parse_written = written_whole a ∙ ap Ok said

-- what bytes say fits a frame
pub parsed_fits : (xs : List ℕ) → Bytes xs → AdvertFits (advert_in xs)
parsed_fits xs b =
    let base : be 1 xs 1 < 256 = be_bound 1 xs 1 b in
    let address : be 6 xs 2 < 281474976710656 = be_bound 6 xs 2 b in
    record {
      ringlet_fits = omega arith;
      ttl_fits = be_bound 1 xs 0 b;
      high_fits = omega arith;
      low_fits = omega arith;
      rate_fits = be_bound 2 xs 10 b;
    }
