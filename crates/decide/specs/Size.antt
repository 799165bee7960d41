-- The size of a frame.
-- Assumes nothing.
use Rattle.std.specs.Prelude.{ℕ}
use Rattle.decide.specs.Test.{Test, ◌≤?◌, ◌∧?◌}

-- Frame size 16 to mtu.
abbrev pub size_ok : ℕ → ℕ → Test
size_ok size mtu = 16 ≤? size ∧? size ≤? mtu
