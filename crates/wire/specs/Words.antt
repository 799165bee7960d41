-- Words, numbers of 4 bytes with the least first, that stand one behind the other. Assumes nothing.
use Rattle.std.specs.Prelude.{ℕ, zero, suc, ◌+◌, ◌*◌, List, [], ◌∷◌, ◌++◌, ◌≡◌, refl, length}
use Rattle.std.proofs.Common.{arith, length-append}
use Rattle.wire.specs.Wire.{le, digits, length_digits}

-- words, 4 bytes each
unfoldable pub words_bytes : List ℕ → List ℕ
words_bytes [] = []
words_bytes (w ∷ ws) = digits 4 w ++ words_bytes ws

-- how many bytes they are
pub words_length : (ws : List ℕ) → length (words_bytes ws) ≡ 4 * length ws
unfolding words_bytes
words_length [] = refl
words_length (w ∷ ws) = omega (arith, length-append (digits 4 w) (words_bytes ws), length_digits 4 w, words_length ws)

-- the n words that stand in xs from index at on
unfoldable pub words_at : ℕ → List ℕ → ℕ → List ℕ
words_at zero xs at = []
words_at (suc n) xs at = le 4 xs at ∷ words_at n xs (at + 4)
