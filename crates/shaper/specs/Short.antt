-- How far short a shaper is of permitting a send, and what a refusal says of it.
-- Assumes nothing.
use Rattle.std.specs.Prelude.{ℕ, ◌+◌, ◌-◌, cond, eqb}

-- The bytes missing: the least amount whose addition would make the credit exceed loLimit; 0 where the shaper permits.
abbrev pub shortfall : ℕ → ℕ → ℕ
shortfall credit lo = lo + 1 - credit

-- What a refusal says beside its number: 6 how far short, every other nothing.
abbrev pub detail_of : ℕ → ℕ → ℕ
detail_of number short = cond (eqb number 6) short 0
