-- Where a file stands, by what the system tells of it: the first number of a text, in decimal.
-- Assumes nothing.
use Rattle.std.specs.Prelude.{ℕ, List, ◌+◌, ◌*◌, ◌-◌, min, not, drop}
use Rattle.std.specs.Char.{is_ascii_digit}
use Rattle.std.specs.List.{fold, prefix_len, take_while}

-- a number with a digit more behind it, or the largest of 64 bits where that is larger
abbrev pub with_digit : ℕ → ℕ → ℕ
with_digit n c = min (n * 10 + (c - 48)) 18446744073709551615

-- a text from its first digit on
abbrev pub from_digit : List ℕ → List ℕ
from_digit text = drop (prefix_len (λ c. not (is_ascii_digit c)) text) text

-- the number that its first digits say, or 0 where it has none
abbrev pub place_of : List ℕ → ℕ
place_of text = fold with_digit 0 (take_while is_ascii_digit (from_digit text))
