-- Where bytes stand: the same bytes at two places (`Same`), and given bytes at a place (`Stands`). Each law serves both orders,
-- since a number is read from the bytes at its place alone. Assumes nothing.
use mathlib.Core.Path.{◌≡◌, sym, ap, ◌∙◌}
use mathlib.Core.List.{List, [], ◌∷◌, ◌++◌, append_assoc, reverse, reverse-cons}
use Prim.Native.Nat.{ℕ, zero, suc, ◌+◌, ◌≤◌, ◌<◌}
use native.Mathlib.Omega.{arith}
use native.Mathlib.Nat.{zero-add, add_assoc}
use lib.ListN.{get_or, length, take, drop, length-take, length-drop, take-append-drop, get_or-append}
use lib.Seq.{get_or-append-add, get_or-drop, get_or-take, length-take-le, take-add, ext_get_or}
use Rattle.wire.specs.Wire.{put, Bytes}

-- the n bytes of xs from at on are those of ys from k on
abbrev pub Same : ℕ → List ℕ → ℕ → List ℕ → ℕ → Type 0
Same n xs at ys k = (i : ℕ) → i < n → get_or xs (at + i) 0 ≡ get_or ys (k + i) 0

-- the bytes bs stand in xs from at on
abbrev pub Stands : List ℕ → ℕ → List ℕ → Type 0
Stands xs at bs = (i : ℕ) → i < length bs → get_or xs (at + i) 0 ≡ get_or bs i 0

-- what stands before is skipped
pub same_skip : (n : ℕ) (p q : List ℕ) (k : ℕ) → Same n (p ++ q) (length p + k) q k
same_skip n p q k i h = rw add_assoc (get_or-append-add p q (k + i) 0)

-- what stands behind is not read
pub same_left : (n : ℕ) (p q : List ℕ) (at : ℕ) → at + n ≤ length p → Same n (p ++ q) at p at
same_left n p q at h i l = get_or-append p q 0 (at + i) (omega arith)

pub same_drop : (n k : ℕ) (xs : List ℕ) (at : ℕ) → Same n (drop k xs) at xs (k + at)
same_drop n k xs at i h = rw add_assoc (get_or-drop k xs (at + i) 0)

-- bytes stand between what is before and what is behind them
pub stands_between : (p bs q : List ℕ) → Stands (p ++ (bs ++ q)) (length p) bs
stands_between p bs q i h = get_or-append-add p (bs ++ q) i 0 ∙ get_or-append bs q 0 i h

pub stands_whole : (bs : List ℕ) → Stands bs 0 bs
stands_whole bs i h = rw zero-add

-- what is put stands there
pub stands_put : (xs bs : List ℕ) (at : ℕ) → at + length bs ≤ length xs → Stands (put xs at bs) at bs
unfolding put
stands_put xs bs at h i l =
    let e : at ≡ length (take at xs) = sym (length-take-le at xs (omega arith)) in
    rw append_assoc
    (ap (λ (k : ℕ). get_or (take at xs ++ (bs ++ drop (at + length bs) xs)) (k + i) 0) e
    ∙ stands_between (take at xs) bs (drop (at + length bs) xs) i l)

-- bytes that stand at a place are what is taken from there
stands_taken : (xs bs : List ℕ) (at : ℕ) → at + length bs ≤ length xs → Stands xs at bs → bs ≡ take (length bs) (drop at xs)
stands_taken xs bs at h s =
    ext_get_or 0 bs (take (length bs) (drop at xs)) (simp (length-take, length-drop) (omega arith))
    (λ i l. sym (get_or-take (length bs) (drop at xs) i 0 l ∙ get_or-drop at xs i 0 ∙ s i l))

-- a put of what stands there already changes nothing
pub put_stands : (xs bs : List ℕ) (at : ℕ) → at + length bs ≤ length xs → Stands xs at bs → put xs at bs ≡ xs
unfolding put
put_stands xs bs at h s =
    ap (λ (l : List ℕ). take at xs ++ l ++ drop (at + length bs) xs) (stands_taken xs bs at h s)
    ∙ ap (λ (l : List ℕ). l ++ drop (at + length bs) xs) (sym (take-add at (length bs) xs))
    ∙ take-append-drop (at + length bs) xs

-- ---- lists of bytes

pub bytes_append : (p q : List ℕ) → Bytes p → Bytes q → Bytes (p ++ q)
bytes_append [] q b c j = c j
bytes_append (x ∷ p) q b c zero = b zero
bytes_append (x ∷ p) q b c (suc j) = bytes_append p q (λ i. b (suc i)) c j

bytes_one : (x : ℕ) → x < 256 → Bytes (x ∷ [])
bytes_one x h zero = h
bytes_one x h (suc j) = omega arith

pub bytes_take : (n : ℕ) (xs : List ℕ) → Bytes xs → Bytes (take n xs)
bytes_take zero xs b j = omega arith
bytes_take (suc n) [] b j = omega arith
bytes_take (suc n) (x ∷ xs) b zero = b zero
bytes_take (suc n) (x ∷ xs) b (suc j) = bytes_take n xs (λ i. b (suc i)) j

pub bytes_drop : (n : ℕ) (xs : List ℕ) → Bytes xs → Bytes (drop n xs)
bytes_drop n xs b j = rw get_or-drop (b (n + j))

pub bytes_reverse : (xs : List ℕ) → Bytes xs → Bytes (reverse xs)
bytes_reverse [] b = b
bytes_reverse (x ∷ xs) b = rw (reverse-cons x xs) (bytes_append (reverse xs) (x ∷ []) (bytes_reverse xs (λ i. b (suc i))) (bytes_one x (b zero)))
