-- Ranges of a shaper's limits, and of what its record counts.
-- Assumes nothing.
use Rattle.std.specs.Prelude.{ℕ, ◌≤◌, ◌<◌}
use Rattle.decide.specs.Test.{Test, ◌≤?◌, ◌<?◌, ◌≡?◌, ◌∧?◌}
use Rattle.shaper.specs.declared.Limits.{Limits}

-- mtu 64 to 9,216: no frame is longer.
abbrev pub most_size : ℕ
most_size = 9216

-- Amount per tick 0 to 65,535.
abbrev pub most_amount : ℕ
most_amount = 65535

-- A record and a summary have at most 1,000,000 events.
abbrev pub most_events : ℕ
most_events = 1000000

-- mtu 64 to 9,216. Each shaper: loLimit mtu to 65,536, hiLimit loLimit+1 to 1,048,576.
abbrev pub limits_ok : Limits → Test
limits_ok l =
    64 ≤? l.mtu ∧? l.mtu ≤? most_size
    ∧? l.mtu ≤? l.lo ∧? l.lo ≤? 65536
    ∧? l.lo <? l.hi ∧? l.hi ≤? 1048576

-- the same as facts with names (`limits_exactly`, proofs/Ranges.antt)
pub record LimitsOk (l : Limits) : Type 0 where
  pub mtu_least : 64 ≤ l.mtu
  pub mtu_most : l.mtu ≤ most_size
  pub lo_least : l.mtu ≤ l.lo
  pub lo_most : l.lo ≤ 65536
  pub hi_least : l.lo < l.hi
  pub hi_most : l.hi ≤ 1048576

-- mtu, loLimit and hiLimit agree
abbrev pub same_limits : Limits → Limits → Test
same_limits l m = l.mtu ≡? m.mtu ∧? l.lo ≡? m.lo ∧? l.hi ≡? m.hi
