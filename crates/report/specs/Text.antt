-- Text as bytes: words in ASCII, numbers in decimal.
-- Assumes nothing.
use Rattle.std.specs.Prelude.{ℕ, zero, suc, ◌+◌, ◌-◌, ◌*◌, ◌/◌, ◌%◌, ◌≤◌, cond, List, [], ◌∷◌, ◌++◌, ltb, ℤ, pos, negsuc}
use Prim.Native.Char.{code}
use Prim.Native.String.{String}
use Prim.Native.String.{[] as end, ◌∷◌ as ◌before◌}

-- the characters of a text, each by its number
abbrev pub ascii : String → List ℕ
ascii end = []
ascii (c before rest) = code c ∷ ascii rest

-- a digit's number: `0` is 48, `9` is 57
abbrev pub digit : ℕ → ℕ
digit d = 48 + d

-- The digits of n in decimal: a number below 10 is one digit, any other the digits of n / 10 and then that of n % 10. The first argument bounds how
-- often n is divided.
unfoldable pub spelt : ℕ → ℕ → List ℕ
spelt zero n = digit n ∷ []
spelt (suc k) n =
    let more = spelt k (n / 10) ++ (digit (n % 10) ∷ []) in
    cond (ltb n 10) (digit n ∷ []) more

-- n in decimal, without leading zeros; 0 as `0`. Nothing is divided more often than it is large.
unfoldable pub numeral : ℕ → List ℕ
numeral n = spelt n n

-- a number that may be negative, as `-20`
unfoldable pub signed_numeral : ℤ → List ℕ
signed_numeral (pos n) = numeral n
signed_numeral (negsuc m) = ascii "-" ++ numeral (suc m)

-- words, a number and the end of the line
unfoldable pub line : List ℕ → List ℕ → List ℕ
line words number = words ++ number ++ ascii "\n"

-- ---- what the laws of numerals speak of

-- the number that digits say behind a number v
abbrev pub value_from : ℕ → List ℕ → ℕ
value_from v [] = v
value_from v (x ∷ xs) = value_from (10 * v + (x - 48)) xs

-- every one is a digit, `0` to `9`
abbrev pub Digits : List ℕ → Type 0
Digits [] = Unit {0}
Digits (x ∷ xs) = (48 ≤ x) × (x ≤ 57) × Digits xs
