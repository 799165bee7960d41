-- What is left of the chunk, read from here, gives what the whole chunk gives from the start.
-- Assumes nothing.
use Prim.Native.Nat.{◌-◌, ◌≤◌}
use mathlib.Core.Path.{◌≡◌}
use lib.ListN.{length, drop}
use Rattle.hex_text.specs.Fed.{read_text}
use Rattle.hex_text.proofs.Hex.text.Given as goal

abbrev pub invariant-loop-i : goal.invariant-loop-i
invariant-loop-i l =
    (l.i ≤ length l.chunk) × ((read_text l.next (drop l.i l.chunk) ≡ read_text l.initial.next l.chunk) × (length l.room ≡ 4096))

abbrev pub decreases-loop-i : goal.decreases-loop-i
decreases-loop-i l = length l.chunk - l.i
