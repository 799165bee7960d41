-- When the credits are in range, as a test.
-- Assumes nothing.
use Rattle.decide.specs.Test.{Test, ◌≤?◌, ◌∧?◌}
use Rattle.settings.specs.declared.Settings.{Settings}
use Rattle.credits.specs.declared.Credits.{Credits}

-- Credits are 0 to hiLimit.
abbrev pub credits_ok : Settings → Credits → Test
credits_ok s c =
    c.m ≤? s.shapers.m.hi
    ∧? c.a ≤? s.shapers.a.hi
    ∧? c.b ≤? s.shapers.b.hi
    ∧? c.c ≤? s.shapers.c.hi
    ∧? c.d ≤? s.shapers.d.hi
