-- `wire::write` meets its contract. What stands behind the part that is written is what is left of the whole: `drop-drop`.
-- Assumes nothing.
use Prim.Native.Nat.{ℕ, ◌+◌, ◌-◌}
use mathlib.Core.List.{List, ◌++◌, append_assoc}
use mathlib.Core.Path.{◌≡◌, sym, ap, ◌∙◌}
use native.Mathlib.Omega.{arith}
use lib.ListN.{length, take, drop}
use Rattle.std.proofs.Common.{drop-drop}
use borrow.Author.Rules.{rules}
use Rattle.wire.specs.Wire.{put}
use Rattle.wire.proofs.write.Goals as goal

pub returns : goal.returns
unfolding put
returns g c =
    let a = c.args in
    let s : List ℕ = a.s.now in
    let n : length a.bytes ≡ g.row.N = search rules in
    let k : a.at + g.row.N - a.at ≡ length a.bytes = omega arith in
    rw c.copy_from_slice.ensures.after
    (ap (λ (m : ℕ). take a.at s ++ (a.bytes ++ drop m (drop a.at s))) k
    ∙ ap (λ (l : List ℕ). take a.at s ++ (a.bytes ++ l)) (drop-drop (length a.bytes) a.at s)
    ∙ sym (append_assoc (take a.at s) a.bytes (drop (a.at + length a.bytes) s)))
