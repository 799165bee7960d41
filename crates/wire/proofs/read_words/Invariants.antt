-- `wire::read_words` meets its contract. The loop keeps: the words read so far, and those still to come, are all: `read_more`.
-- Assumes nothing.
use Prim.Native.Nat.{◌+◌, ◌*◌, ◌-◌}
use mathlib.Core.List.{◌++◌}
use mathlib.Core.Path.{◌≡◌}
use lib.ListN.{length, take}
use Rattle.wire.specs.Words.{words_at}
use Rattle.wire.proofs.read_words.Given as goal

abbrev pub invariant-loop-i : goal.invariant-loop-i
invariant-loop-i g l =
    record {
      many : length l.words ≡ g.row.N;
      all : take l.i l.words ++ words_at (g.row.N - l.i) l.s (l.at + 4 * l.i) ≡ words_at g.row.N l.s l.at;
    }
