-- How far short the shapers are that a client frame needs.
-- Assumes nothing.
use Rattle.std.specs.Prelude.{ℕ, ◌+◌, ◌<◌, max, List, [], ◌∷◌}
use Rattle.shaper.specs.Short.{shortfall}
use Rattle.settings.specs.declared.Settings.{Settings}
use Rattle.credits.specs.declared.Credits.{Credits}
use Rattle.credits.specs.declared.Which.{Which}
use Rattle.credits.specs.Which.{bucket_of, credit_of}

-- The bytes missing: the least amount whose addition would make the credit exceed loLimit.
abbrev pub short_of : Settings → Credits → Which → ℕ
short_of s c w = shortfall (credit_of c w) (bucket_of s w).lo

-- Where two shapers are needed, the larger shortfall.
abbrev pub short_all : Settings → Credits → List Which → ℕ
short_all s c [] = 0
short_all s c (w ∷ ws) = max (short_of s c w) (short_all s c ws)

-- with this amount added, the credit of each of these exceeds its loLimit
abbrev pub AllExceed : Settings → Credits → ℕ → List Which → Type 0
AllExceed s c x [] = Unit {0}
AllExceed s c x (w ∷ ws) = ((bucket_of s w).lo < credit_of c w + x) × AllExceed s c x ws
