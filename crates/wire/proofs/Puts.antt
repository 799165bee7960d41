-- Laws of `put`, whatever the bytes mean: a put is a run of stores, and puts one after another are one. Assumes nothing.
use mathlib.Core.Path.{◌≡◌, sym, ap, ◌∙◌}
use mathlib.Core.List.{List, [], ◌∷◌, ◌++◌, append-nil}
use Prim.Native.Nat.{ℕ, suc, ◌+◌, ◌≤◌}
use native.Mathlib.Omega.{arith}
use native.Mathlib.Nat.{zero-add, add-zero}
use lib.ListN.{length, take, drop, set, length-append, take-append-drop}
use lib.Seq.{sets, sets-eq, length-sets, drop-length}
use Rattle.wire.specs.Wire.{put}

pub put_sets : (xs bs : List ℕ) (at : ℕ) → at + length bs ≤ length xs → put xs at bs ≡ sets xs at bs
unfolding put
put_sets xs bs at h = sym (sets-eq bs xs at h)

sets_append : (cs bs xs : List ℕ) (at : ℕ) → sets (sets xs at cs) (at + length cs) bs ≡ sets xs at (cs ++ bs)
sets_append [] bs xs at = ap (λ (k : ℕ). sets xs k bs) (add-zero at)
sets_append (a ∷ cs) bs xs at =
    let e : at + length (a ∷ cs) ≡ suc at + length cs = omega arith in
    ap (λ (k : ℕ). sets (sets (set xs at a) (suc at) cs) k bs) e ∙ sets_append cs bs (set xs at a) (suc at)

pub length_put : (xs bs : List ℕ) (at : ℕ) → at + length bs ≤ length xs → length (put xs at bs) ≡ length xs
length_put xs bs at h = ap length (put_sets xs bs at h) ∙ length-sets xs at bs

-- two puts, one behind the other, are the put of both
pub put_put : (xs cs bs : List ℕ) (at k : ℕ) → k ≡ at + length cs → k + length bs ≤ length xs → put (put xs at cs) k bs ≡ put xs at (cs ++ bs)
put_put xs cs bs at k e h =
    let ha : at + length cs ≤ length xs = omega arith in
    let hl : length (put xs at cs) ≡ length xs = length_put xs cs at ha in
    let hab : at + length (cs ++ bs) ≤ length xs = omega (arith, length-append cs bs) in
    put_sets (put xs at cs) bs k (omega arith)
    ∙ ap (λ (l : List ℕ). sets l k bs) (put_sets xs cs at ha)
    ∙ ap (λ (j : ℕ). sets (sets xs at cs) j bs) e
    ∙ sets_append cs bs xs at
    ∙ sym (put_sets xs (cs ++ bs) at hab)

-- a put of as many bytes as there are leaves these
pub put_whole : (xs bs : List ℕ) → length bs ≡ length xs → put xs 0 bs ≡ bs
unfolding put
put_whole xs bs e =
    ap (λ (k : ℕ). bs ++ drop k xs) (zero-add (length bs) ∙ e)
    ∙ ap (λ (r : List ℕ). bs ++ r) (drop-length xs)
    ∙ append-nil bs

pub put_nil : (xs : List ℕ) (at : ℕ) → put xs at [] ≡ xs
unfolding put
put_nil xs at = ap (λ (k : ℕ). take at xs ++ [] ++ drop k xs) (add-zero at) ∙ ap (λ (r : List ℕ). r ++ drop at xs) (append-nil (take at xs)) ∙ take-append-drop at xs
