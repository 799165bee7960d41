-- The bytes in the middle are replaced by the words that fit, which are as many.
-- Assumes nothing.
use Rattle.std.proofs.Common.{◌≡◌, ℕ, List, ◌++◌, ◌+◌, ◌-◌, ◌≤◌, length, min, take, drop, sym, arith, append_assoc}
use Rattle.std.proofs.lemmas.List.{take_min, length-take-le}
use lib.Seq.{drop-drop}
use Rattle.wire.specs.Wire.{put}
use Rattle.console.proofs.tell.put.Goals as goal

-- k bytes from a place on replaced by the first n words, as many as fit
replaced :
    (room words mid : List ℕ) (at n k : ℕ)
    → at ≤ length room
    → n ≡ min (length room - at) (length words)
    → k ≡ n
    → mid ≡ take n words
    → take at room ++ (mid ++ drop k (drop at room)) ≡ put room at (take (length room - at) words)
unfolding put
replaced room words mid at n k h e m w =
    let cut : take n words ≡ take (length room - at) words = rw e (take_min (length room - at) words) in
    let many : length (take (length room - at) words) ≡ n = rw (← cut) (length-take-le n words (omega arith)) in
    rw (m, w, cut, many) (simp drop-drop (sym (append_assoc (take at room) (take (length room - at) words) (drop (at + n) room))))

pub returns-clause-room_after : goal.returns-clause-room_after
returns-clause-room_after c =
    let a = c.args in
    replaced a.room.now a.words.now _ a.at c.min-n.result _ (omega arith) (omega arith) (omega arith) c.copy_from_slice.ensures.after
