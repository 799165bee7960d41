-- The steps of the code: one byte, as a number of one byte; and one turn more of the loops over the slots, in which a word is read behind those that
-- were read, and written behind those that were written.
-- Assumes nothing.
use Prim.Native.Nat.{ℕ, ◌%◌, ◌<◌}
use mathlib.Core.List.{List, [], ◌∷◌}
use mathlib.Core.Path.{◌≡◌, sym, ◌∙◌}
use native.Mathlib.Omega.{arith}
use lib.ListN.{length, set, get_or, length-set}
use Rattle.wire.specs.Wire.{le, digits, put}
use Rattle.wire.proofs.Puts.{put_sets}

-- ---- one byte

pub byte_read : (xs : List ℕ) (k : ℕ) → get_or xs k 0 ≡ le 1 xs k
unfolding le
byte_read xs k = omega arith

byte_written : (xs : List ℕ) (k v : ℕ) → v < 256 → k < length xs → set xs k v ≡ put xs k (digits 1 v)
unfolding digits
byte_written xs k v f h =
    let m : v % 256 ≡ v = omega arith in
    rw m (sym (put_sets xs (v ∷ []) k (omega arith)))

-- two of them
pub bytes_written : (xs : List ℕ) (j k u v : ℕ) → u < 256 → v < 256 → j < length xs → k < length xs →
    set (set xs j u) k v ≡ put (put xs j (digits 1 u)) k (digits 1 v)
bytes_written xs j k u v f g h l =
    byte_written (set xs j u) k v g (simp length-set l) ∙ rw (byte_written xs j u f h)
