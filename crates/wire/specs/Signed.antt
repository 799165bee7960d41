-- Signed numbers in 8 bytes: two's complement, between a number below 2 ^ 64 and the integer that it stands for. Assumes nothing.
use Rattle.std.specs.Prelude.{cond, ℕ, ◌-◌, ltb, ℤ, pos, negsuc}

-- n below 2 ^ 63 stands for itself, and from there on for n - 2 ^ 64, which is -1 - (2 ^ 64 - 1 - n)
unfoldable pub signed_of : ℕ → ℤ
signed_of n = cond (ltb n 9223372036854775808) (pos n) (negsuc (18446744073709551615 - n))

-- the number that stands for an integer: itself, and -1 - m by 2 ^ 64 - 1 - m
unfoldable pub unsigned_of : ℤ → ℕ
unsigned_of (pos n) = n
unsigned_of (negsuc m) = 18446744073709551615 - m
