-- Numbers in lists of bytes: least byte first (`le`, `digits`) and greatest byte first (`be`, `digits_be`). Assumes nothing.
use Rattle.std.specs.Prelude.{◌≡◌, refl, List, [], ◌∷◌, ◌++◌, reverse, ℕ, zero, suc, ◌+◌, ◌*◌, ◌/◌, ◌%◌, ◌<◌, get_or, length, take, drop}
use Rattle.std.proofs.Common.{ap, ◌∙◌}
use Rattle.std.proofs.lemmas.List.{length-reverse}

-- every element is below 256
abbrev pub Bytes : List ℕ → Type 0
Bytes xs = (j : ℕ) → get_or xs j 0 < 256

-- the number whose n bytes stand in xs from index at, least byte first
unfoldable pub le : ℕ → List ℕ → ℕ → ℕ
le zero xs at = 0
le (suc n) xs at = get_or xs at 0 + 256 * le n xs (suc at)

-- the number whose n bytes stand in xs from index at, greatest byte first
unfoldable pub be : ℕ → List ℕ → ℕ → ℕ
be zero xs at = 0
be (suc n) xs at = 256 * be n xs at + get_or xs (at + n) 0

-- the n bytes of v, least byte first; what does not fit them is cut off
unfoldable pub digits : ℕ → ℕ → List ℕ
digits zero v = []
digits (suc n) v = (v % 256) ∷ digits n (v / 256)

-- the n bytes of v, greatest byte first
unfoldable pub digits_be : ℕ → ℕ → List ℕ
digits_be n v = reverse (digits n v)

-- xs with bs in the place of what stood from index at on
unfoldable pub put : List ℕ → ℕ → List ℕ → List ℕ
put xs at bs = take at xs ++ bs ++ drop (at + length bs) xs

pub length_digits : (n v : ℕ) → length (digits n v) ≡ n
unfolding digits
length_digits zero v = refl
length_digits (suc n) v = ap suc (length_digits n (v / 256))

pub length_digits_be : (n v : ℕ) → length (digits_be n v) ≡ n
unfolding digits_be
length_digits_be n v = length-reverse (digits n v) ∙ length_digits n v
