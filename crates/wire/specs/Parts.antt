-- Parts of known sizes that stand one after another: numbers, and groups of numbers. Assumes nothing.
use Rattle.std.specs.Prelude.{◌≡◌, refl, List, [], ◌∷◌, ◌++◌, ℕ, zero, suc, ◌+◌, length}
use Rattle.std.proofs.Common.{arith, length-append}
use Rattle.wire.specs.Wire.{digits, digits_be, put, length_digits, length_digits_be}

-- some bytes, and how many they are
pub record Part : Type 0 where
  pub size : ℕ
  pub bytes : List ℕ
  pub sized : length bytes ≡ size

-- the number v in w bytes, least byte first
abbrev pub number : ℕ → ℕ → Part
number w v = record { size = w; bytes = digits w v; sized = length_digits w v }

-- the number v in w bytes, greatest byte first
abbrev pub number_be : ℕ → ℕ → Part
number_be w v = record { size = w; bytes = digits_be w v; sized = length_digits_be w v }

-- bytes as one part, however many they are
abbrev pub bytes_part : List ℕ → Part
bytes_part bs = record { size = length bs; bytes = bs; sized = refl }

-- the bytes of parts, one after another
abbrev pub laid_out : List Part → List ℕ
laid_out [] = []
laid_out (p ∷ ps) = p.bytes ++ laid_out ps

-- how many bytes they are
abbrev pub sizes : List Part → ℕ
sizes [] = 0
sizes (p ∷ ps) = p.size + sizes ps

-- xs after each part is put, the first at index at and each other behind the one before
abbrev pub laid : List ℕ → ℕ → List Part → List ℕ
laid xs at [] = xs
laid xs at (p ∷ ps) = laid (put xs at p.bytes) (at + p.size) ps

-- the k-th part, and how many bytes stand before it
abbrev pub nth : List Part → ℕ → Part
nth [] k = number 0 0
nth (p ∷ ps) zero = p
nth (p ∷ ps) (suc k) = nth ps k

abbrev pub offset : List Part → ℕ → ℕ
offset [] k = 0
offset (p ∷ ps) zero = 0
offset (p ∷ ps) (suc k) = p.size + offset ps k

pub length_laid_out : (ps : List Part) → length (laid_out ps) ≡ sizes ps
length_laid_out [] = refl
length_laid_out (p ∷ ps) = omega (arith, length-append p.bytes (laid_out ps), p.sized, length_laid_out ps)

-- parts that are one part
abbrev pub group : List Part → Part
group ps = record { size = sizes ps; bytes = laid_out ps; sized = length_laid_out ps }
