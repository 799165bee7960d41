-- A ceiling, which is signed, as its depth below hiLimit. The ceiling at a depth is `sub_ℕ hi depth`, hi − depth as an integer.
-- Assumes nothing.
use Rattle.std.specs.Prelude.{ℕ, ◌+◌, ◌-◌, ℤ, pos, negsuc}

-- hi − ceiling; 0 for a ceiling above hiLimit, which none in range is
unfoldable pub depth_below : ℕ → ℤ → ℕ
depth_below hi (pos n) = hi - n
depth_below hi (negsuc n) = hi + n + 1
