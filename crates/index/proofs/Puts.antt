-- Three puts, the middle written last: those of the halves of a node, then its own entry between them.
-- Assumes nothing.
use Prim.Native.Nat.{ℕ, suc, ◌+◌, ◌≤◌, ◌<◌}
use mathlib.Core.List.{List, [], ◌∷◌, ◌++◌}
use mathlib.Core.Path.{◌≡◌, refl, sym, ap, ◌∙◌}
use native.Mathlib.Omega.{arith}
use lib.ListN.{length, set, length-append}
use lib.Seq.{sets, set_comm}
use Rattle.wire.specs.Wire.{put}
use Rattle.wire.proofs.Puts.{put_sets, length_put, put_put}

-- a store before others may come before them or behind
set_sets : (bs xs : List ℕ) (b c v : ℕ) → b < c → set (sets xs c bs) b v ≡ sets (set xs b v) c bs
set_sets [] xs b c v h = refl
set_sets (a ∷ bs) xs b c v h =
    set_sets bs (set xs c a) b (suc c) v (omega arith)
    ∙ ap (λ (l : List ℕ). sets l (suc c) bs) (set_comm xs c b a v (λ e. omega arith))

sets_sets : (es bs xs : List ℕ) (b c : ℕ) → b + length es ≤ c → sets (sets xs c bs) b es ≡ sets (sets xs b es) c bs
sets_sets [] bs xs b c h = refl
sets_sets (v ∷ es) bs xs b c h =
    ap (λ (l : List ℕ). sets l (suc b) es) (set_sets bs xs b c v (omega arith))
    ∙ sets_sets es bs (set xs b v) (suc b) c (omega arith)

-- two puts side by side, the second first
pub put_comm : (xs es bs : List ℕ) (b c : ℕ) → b + length es ≤ c → c + length bs ≤ length xs → put (put xs c bs) b es ≡ put (put xs b es) c bs
put_comm xs es bs b c h k =
    let l = length_put xs bs c (omega arith) in
    let m = length_put xs es b (omega arith) in
    put_sets (put xs c bs) es b (omega arith)
    ∙ ap (λ (ys : List ℕ). sets ys b es) (put_sets xs bs c (omega arith))
    ∙ sets_sets es bs xs b c h
    ∙ ap (λ (ys : List ℕ). sets ys c bs) (sym (put_sets xs es b (omega arith)))
    ∙ sym (put_sets (put xs b es) bs c (omega arith))

pub put_three : (xs cs es bs : List ℕ) (a b c : ℕ) → b ≡ a + length cs → c ≡ b + length es → c + length bs ≤ length xs →
    put (put (put xs a cs) c bs) b es ≡ put xs a (cs ++ (es ++ bs))
put_three xs cs es bs a b c e f h =
    let l = length_put xs cs a (omega arith) in
    let m = length-append es bs in
    put_comm (put xs a cs) es bs b c (omega arith) (omega arith)
    ∙ put_put (put xs a cs) es bs b c f (omega arith)
    ∙ put_put xs cs (es ++ bs) a b e (omega arith)
