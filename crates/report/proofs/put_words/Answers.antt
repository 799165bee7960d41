-- The bytes in the middle are replaced by the words, which are as many.
-- Assumes nothing.
use mathlib.Core.Path.{◌≡◌, sym}
use Prim.Native.Nat.{◌+◌, ◌-◌}
use native.Mathlib.Omega.{arith}
use lib.ListN.{length, take, drop}
use lib.Seq.{drop-drop}
use mathlib.Core.List.{append_assoc}
use Rattle.wire.specs.Wire.{put}
use Rattle.report.proofs.put_words.Goals as goal

pub returns-clause-s_after : goal.returns-clause-s_after
unfolding put
returns-clause-s_after c =
    let a = c.args in
    let n : a.at + length a.words.now - a.at ≡ length a.words.now = omega arith in
    rw (n, c.copy_from_slice.ensures.after) (simp drop-drop (sym (append_assoc (take a.at a.s.now) a.words.now (drop (a.at + length a.words.now) a.s.now))))
