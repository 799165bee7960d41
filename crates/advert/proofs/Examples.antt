-- One frame, written and parsed by computation.
-- Assumes nothing.
use mathlib.Core.Path.{◌≡◌, refl}
use mathlib.Core.List.{[], ◌∷◌}
use Rattle.decide.specs.Test.{test}
use Rattle.wire.specs.Wire.{be, digits, digits_be}
use Rattle.advert.specs.declared.Advert.{Advert}
use Rattle.std.specs.Prelude.{Ok, Err}
use Rattle.decide.specs.Number.{refusal_of}
use Rattle.advert.specs.Frame.{advert_bytes, parsed_of}

-- ringlet bit 1, ttl 255, address 01-23-45-67-89-ab, rate 1,000
abbrev sample : Advert
sample = record { ringlet = 1; ttl = 255; high = 291; low = 1164413355; rate = 1000 }

pub written_sample : advert_bytes sample ≡ 255 ∷ 160 ∷ 1 ∷ 35 ∷ 69 ∷ 103 ∷ 137 ∷ 171 ∷ 0 ∷ 0 ∷ 3 ∷ 232 ∷ []
unfolding advert_bytes digits digits_be
written_sample = refl

-- with every bit set that is not looked at
pub parsed_sample : parsed_of (255 ∷ 239 ∷ 1 ∷ 35 ∷ 69 ∷ 103 ∷ 137 ∷ 171 ∷ 31 ∷ 255 ∷ 3 ∷ 232 ∷ []) ≡ Ok sample
unfolding parsed_of test be
parsed_sample = refl

-- frame type 3, a header of another kind, and a byte too few
pub other_type : parsed_of (255 ∷ 176 ∷ 1 ∷ 35 ∷ 69 ∷ 103 ∷ 137 ∷ 171 ∷ 0 ∷ 0 ∷ 3 ∷ 232 ∷ []) ≡ Err (refusal_of 2)
unfolding parsed_of test be
other_type = refl

pub other_kind : parsed_of (255 ∷ 160 ∷ 1 ∷ 35 ∷ 69 ∷ 103 ∷ 137 ∷ 171 ∷ 32 ∷ 0 ∷ 3 ∷ 232 ∷ []) ≡ Err (refusal_of 2)
unfolding parsed_of test be
other_kind = refl

pub too_short : parsed_of (255 ∷ 160 ∷ 1 ∷ 35 ∷ 69 ∷ 103 ∷ 137 ∷ 171 ∷ 0 ∷ 0 ∷ 3 ∷ []) ≡ Err (refusal_of 2)
unfolding parsed_of test be
too_short = refl
