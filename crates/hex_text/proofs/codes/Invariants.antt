-- Below the index each place has its character's code.
-- Assumes nothing.
use Prim.Native.Nat.{ℕ, ◌<◌}
use mathlib.Core.Path.{◌≡◌}
use lib.ListN.{length, get_or}
use Rattle.hex_text.specs.Hex.{glyph_of}
use Rattle.hex_text.specs.Decoded.{code_of}
use Rattle.hex_text.proofs.codes.Given as goal

abbrev pub invariant-loop-c : goal.invariant-loop-c
invariant-loop-c l = (length l.codes ≡ 256) × ((k : ℕ) → k < l.c → get_or l.codes k 0 ≡ code_of (glyph_of k))
