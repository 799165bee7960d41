-- Four numbers: of a counter's words, and of stored ones. They differ in how many bits hold them, which no rule speaks of.
-- Assumes nothing.
use Rattle.std.specs.Prelude.{ℕ}
use Rattle.fair.specs.declared.Four.{Four as four}

-- the four counters, and other rates
abbrev pub Four : Type 0
Four = four ℕ

-- for each of the four its smoothed rate, kept times lpCoef
abbrev pub Stored : Type 0
Stored = four ℕ
