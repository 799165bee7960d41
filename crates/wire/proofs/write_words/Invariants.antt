-- `wire::write_words` meets its contract. The loop keeps: the words written so far are the first i: `write_more`.
-- Assumes nothing.
use mathlib.Core.Path.{◌≡◌}
use lib.ListN.{take}
use Rattle.wire.specs.Wire.{put}
use Rattle.wire.specs.Words.{words_bytes}
use Rattle.wire.proofs.write_words.Given as goal

abbrev pub invariant-loop-i : goal.invariant-loop-i
invariant-loop-i g l =
    l.s ≡ put l.initial.s l.at (words_bytes (take l.i l.words))
