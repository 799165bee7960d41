-- The fairness frame of document 01: "ttl; base (bit 7 ringlet, bits 5 to 4 frame type, 2 = fairness); address 6; header 2, top three bits 0 for
-- single choke; rate 2. Big-endian." Assumes nothing.
use Rattle.std.specs.Prelude.{cond, not, List, [], ◌∷◌, ℕ, ◌+◌, ◌*◌, ◌/◌, ◌%◌, ◌<◌, length, Result, Ok, Err}
use Rattle.decide.specs.Test.{Test, test, ◌≡?◌, ◌∧?◌}
use Rattle.decide.specs.declared.refusal.Refusal.{Refusal}
use Rattle.decide.specs.Refusal.{Fault, fault}
use Rattle.decide.specs.Number.{number_in, refusal_of}
use Rattle.wire.specs.Wire.{be}
use Rattle.wire.specs.Parts.{Part, number_be, laid_out}
use Rattle.advert.specs.declared.Advert.{Advert}

-- how many bytes a frame has
abbrev pub advert_length : ℕ
advert_length = 12

-- ---- written

-- bit 7 ringlet, bits 5 to 4 frame type, 2 = fairness. Other bits are written 0.
abbrev pub base_of : Advert → ℕ
base_of a = a.ringlet % 2 * 128 + 2 * 16

-- the address as one number, of its high 16 bits and its low 32 bits
abbrev pub address_of : Advert → ℕ
address_of a = a.high * 4294967296 + a.low

-- ttl; base; address 6; header 2; rate 2. Big-endian.
abbrev pub parts_of : Advert → List Part
parts_of a =
    number_be 1 a.ttl
    ∷ number_be 1 (base_of a)
    ∷ number_be 6 (address_of a)
    ∷ number_be 2 0
    ∷ number_be 2 a.rate
    ∷ []

-- the bytes of a frame
unfoldable pub advert_bytes : Advert → List ℕ
advert_bytes a = laid_out (parts_of a)

-- what a frame can hold
pub record AdvertFits (a : Advert) : Type 0 where
  pub ringlet_fits : a.ringlet < 2
  pub ttl_fits : a.ttl < 256
  pub high_fits : a.high < 65536
  pub low_fits : a.low < 4294967296
  pub rate_fits : a.rate < 65536

-- ---- parsed

abbrev pub ttl_in : List ℕ → ℕ
ttl_in xs = be 1 xs 0

abbrev pub base_in : List ℕ → ℕ
base_in xs = be 1 xs 1

abbrev pub address_in : List ℕ → ℕ
address_in xs = be 6 xs 2

abbrev pub header_in : List ℕ → ℕ
header_in xs = be 2 xs 8

abbrev pub rate_in : List ℕ → ℕ
rate_in xs = be 2 xs 10

-- bit 7 of base, its bits 5 to 4, and the header's top three bits. Other bits are not looked at.
abbrev pub ringlet_in : List ℕ → ℕ
ringlet_in xs = base_in xs / 128

abbrev pub type_in : List ℕ → ℕ
type_in xs = base_in xs / 16 % 4

abbrev pub kind_in : List ℕ → ℕ
kind_in xs = header_in xs / 8192

-- Another length, type, header kind: 2. This is none of these.
abbrev pub whole : List ℕ → Test
whole xs = (length xs ≡? advert_length) ∧? (type_in xs ≡? 2) ∧? (kind_in xs ≡? 0)

-- what a whole frame says
abbrev pub advert_in : List ℕ → Advert
advert_in xs = record {
  ringlet = ringlet_in xs;
  ttl = ttl_in xs;
  high = address_in xs / 4294967296;
  low = address_in xs % 4294967296;
  rate = rate_in xs;
}

-- what bytes are found to be: a fairness frame that says this, or a refusal
abbrev pub Parsed : Type 0
Parsed = Result Advert Refusal

-- the bytes as they are found, whatever ttl and rate are
unfoldable pub parsed_of : List ℕ → Parsed
parsed_of xs = cond (test (whole xs)) (Ok (advert_in xs)) (Err (refusal_of 2))

-- the number of what was found: 0 for a frame
abbrev pub parsed_number : Parsed → ℕ
parsed_number (Ok a) = 0
parsed_number (Err r) = number_in r

-- 2: bytes are not a whole frame
abbrev pub parse_faults : List ℕ → List Fault
parse_faults xs = fault 2 (not (test (whole xs))) ∷ []
