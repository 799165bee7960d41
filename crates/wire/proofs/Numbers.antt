-- Laws of numbers in bytes, each over the number of bytes n. A law of a place is one of `Places`, carried over by `le_same` or
-- `be_same`. Assumes nothing.
use mathlib.Core.Path.{◌≡◌, refl, sym, ap, subst, ◌∙◌}
use mathlib.Core.List.{List, [], ◌∷◌, ◌++◌, reverse, reverse-cons, reverse-append}
use Prim.Native.Nat.{ℕ, zero, suc, ◌+◌, ◌*◌, ◌/◌, ◌%◌, ◌^◌, ◌≤◌, ◌<◌}
use native.Mathlib.Omega.{arith}
use native.Mathlib.Nat.{zero-add, add-zero, suc-add, add-suc, add_comm, add_assoc, pow-suc, pow-succ', mul_assoc}
use native.Mathlib.Nat.{div-add-mod, div-one, div-div-eq-div-mul}
use lib.ListN.{get_or, length, drop}
use lib.Seq.{get_or_at}
use Rattle.wire.specs.Wire.{le, be, digits, digits_be, put, Bytes, length_digits, length_digits_be}
use Rattle.wire.proofs.Puts.{put_put}
use Rattle.wire.proofs.Places.{Same, same_skip, same_left, same_drop}
use Rattle.wire.proofs.Places.{Stands, stands_put, put_stands, bytes_reverse}

-- ---- a number is read from its bytes alone

shift : (n : ℕ) (xs ys : List ℕ) (at k : ℕ) → Same (suc n) xs at ys k → Same n xs (suc at) ys (suc k)
shift n xs ys at k h i l = simp suc-add (simp add-suc at (h (suc i) (omega arith)))

pub le_same : (n : ℕ) (xs ys : List ℕ) (at k : ℕ) → Same n xs at ys k → le n xs at ≡ le n ys k
unfolding le
le_same zero xs ys at k h = refl
le_same (suc n) xs ys at k h =
    let e : get_or xs at 0 ≡ get_or ys k 0 = simp add-zero at (h 0 (omega arith)) in
    omega (arith, e, le_same n xs ys (suc at) (suc k) (shift n xs ys at k h))

pub be_same : (n : ℕ) (xs ys : List ℕ) (at k : ℕ) → Same n xs at ys k → be n xs at ≡ be n ys k
unfolding be
be_same zero xs ys at k h = refl
be_same (suc n) xs ys at k h = omega (arith, h n (omega arith), be_same n xs ys at k (λ i l. h i (omega arith)))

-- ---- a number that fits is what its bytes say

le_cons : (n x : ℕ) (ds : List ℕ) → le (suc n) (x ∷ ds) 0 ≡ x + 256 * le n ds 0
unfolding le
le_cons n x ds = ap (λ (r : ℕ). x + 256 * r) (le_same n (x ∷ ds) ds 1 0 (same_skip n (x ∷ []) ds 0))

be_snoc : (n x : ℕ) (ds : List ℕ) → length ds ≡ n → be (suc n) (ds ++ (x ∷ [])) 0 ≡ 256 * be n ds 0 + x
unfolding be
be_snoc n x ds e =
    omega (arith, be_same n (ds ++ (x ∷ [])) ds 0 0 (same_left n ds (x ∷ []) 0 (omega arith)), get_or_at ds x [] 0 (0 + n) (omega arith))

le_alone : (n v : ℕ) → v < 256 ^ n → le n (digits n v) 0 ≡ v
unfolding le digits
le_alone zero v h = omega arith
le_alone (suc n) v h =
    le_cons n (v % 256) (digits n (v / 256)) ∙ omega (arith, le_alone n (v / 256) (omega (arith, pow-suc 256 n)))

be_alone : (n v : ℕ) → v < 256 ^ n → be n (digits_be n v) 0 ≡ v
unfolding be digits digits_be
be_alone zero v h = omega arith
be_alone (suc n) v h =
    ap (λ (l : List ℕ). be (suc n) l 0) (reverse-cons (v % 256) (digits n (v / 256)))
    ∙ be_snoc n (v % 256) (digits_be n (v / 256)) (length_digits_be n (v / 256))
    ∙ omega (arith, be_alone n (v / 256) (omega (arith, pow-suc 256 n)))

-- where the bytes of v stand, v is read
pub le_stands : (n v : ℕ) (xs : List ℕ) (at : ℕ) → v < 256 ^ n → Stands xs at (digits n v) → le n xs at ≡ v
le_stands n v xs at h s =
    le_same n xs (digits n v) at 0 (λ i l. rw zero-add (s i (omega (arith, length_digits n v)))) ∙ le_alone n v h

pub be_stands : (n v : ℕ) (xs : List ℕ) (at : ℕ) → v < 256 ^ n → Stands xs at (digits_be n v) → be n xs at ≡ v
be_stands n v xs at h s =
    be_same n xs (digits_be n v) at 0 (λ i l. rw zero-add (s i (omega (arith, length_digits_be n v)))) ∙ be_alone n v h

-- get after put
pub le_put : (n v at : ℕ) (xs : List ℕ) → v < 256 ^ n → at + n ≤ length xs → le n (put xs at (digits n v)) at ≡ v
le_put n v at xs h l = le_stands n v (put xs at (digits n v)) at h (stands_put xs (digits n v) at (omega (arith, length_digits n v)))

pub be_put : (n v at : ℕ) (xs : List ℕ) → v < 256 ^ n → at + n ≤ length xs → be n (put xs at (digits_be n v)) at ≡ v
be_put n v at xs h l = be_stands n v (put xs at (digits_be n v)) at h (stands_put xs (digits_be n v) at (omega (arith, length_digits_be n v)))

-- ---- places

pub le_append_left : (n : ℕ) (p q : List ℕ) (at : ℕ) → at + n ≤ length p → le n (p ++ q) at ≡ le n p at
le_append_left n p q at h = le_same n (p ++ q) p at at (same_left n p q at h)

pub le_drop : (n k : ℕ) (xs : List ℕ) (at : ℕ) → le n (drop k xs) at ≡ le n xs (k + at)
le_drop n k xs at = le_same n (drop k xs) xs at (k + at) (same_drop n k xs at)

-- ---- bounds

pub le_bound : (n : ℕ) (xs : List ℕ) (at : ℕ) → Bytes xs → le n xs at < 256 ^ n
unfolding le
le_bound zero xs at b = omega arith
le_bound (suc n) xs at b = omega (arith, pow-suc 256 n, b at, le_bound n xs (suc at) b)

pub be_bound : (n : ℕ) (xs : List ℕ) (at : ℕ) → Bytes xs → be n xs at < 256 ^ n
unfolding be
be_bound zero xs at b = omega arith
be_bound (suc n) xs at b = omega (arith, pow-suc 256 n, b (at + n), be_bound n xs at b)

-- ---- the bytes at a place are those of the number there

cons_stands : (xs bs : List ℕ) (at a : ℕ) → get_or xs at 0 ≡ a → Stands xs (suc at) bs → Stands xs at (a ∷ bs)
cons_stands xs bs at a e s zero l = simp add-zero e
cons_stands xs bs at a e s (suc i) l = simp add-suc (simp suc-add at (s i (omega arith)))

pub digits_stand : (n : ℕ) (xs : List ℕ) (at : ℕ) → Bytes xs → Stands xs at (digits n (le n xs at))
unfolding le digits
digits_stand zero xs at b = λ i l. omega arith
digits_stand (suc n) xs at b =
    let v : ℕ = get_or xs at 0 + 256 * le n xs (suc at) in
    let d : v / 256 ≡ le n xs (suc at) = omega (arith, b at) in
    let m : get_or xs at 0 ≡ v % 256 = omega (arith, b at) in
    subst (λ (w : ℕ). Stands xs at ((v % 256) ∷ digits n w)) (sym d)
    (cons_stands xs (digits n (le n xs (suc at))) at (v % 256) m (digits_stand n xs (suc at) b))

-- put of what was got changes nothing
pub put_le : (n : ℕ) (xs : List ℕ) (at : ℕ) → Bytes xs → at + n ≤ length xs → put xs at (digits n (le n xs at)) ≡ xs
put_le n xs at b h = put_stands xs (digits n (le n xs at)) at (omega (arith, length_digits n (le n xs at))) (digits_stand n xs at b)

-- ---- what is written are bytes

pub digits_bytes : (n v : ℕ) → Bytes (digits n v)
unfolding digits
digits_bytes zero v j = omega arith
digits_bytes (suc n) v zero = omega arith
digits_bytes (suc n) v (suc j) = digits_bytes n (v / 256) j

pub digits_be_bytes : (n v : ℕ) → Bytes (digits_be n v)
unfolding digits_be
digits_be_bytes n v = bytes_reverse (digits n v) (digits_bytes n v)

-- ---- a number in two parts

pow_times : (n x : ℕ) → 256 ^ suc n * x ≡ 256 * (256 ^ n * x)
pow_times n x = rw pow-succ' (mul_assoc 256 (256 ^ n) x)

pub le_add : (m n : ℕ) (xs : List ℕ) (at : ℕ) → le (m + n) xs at ≡ le m xs at + 256 ^ m * le n xs (at + m)
unfolding le
le_add zero n xs at = simp (zero-add, add-zero) (omega arith)
le_add (suc m) n xs at =
    let s : at + suc m ≡ suc at + m = omega arith in
    rw (suc-add, s) (omega (arith, pow_times m (le n xs (suc at + m)), le_add m n xs (suc at)))

pub be_add : (m n : ℕ) (xs : List ℕ) (at : ℕ) → be (m + n) xs at ≡ 256 ^ n * be m xs at + be n xs (at + m)
unfolding be
be_add m zero xs at = simp add-zero (omega arith)
be_add m (suc n) xs at =
    rw (add-suc, add_assoc) (omega (arith, pow_times n (be m xs at), be_add m n xs at))

-- a word that is read is the two numbers that stand there
pub le_halves : (xs : List ℕ) (at : ℕ) → Bytes xs → (le 4 xs at % 65536 ≡ le 2 xs at) × (le 4 xs at / 65536 ≡ le 2 xs (at + 2))
le_halves xs at b = let e = le_add 2 2 xs at in let m = le_bound 2 xs at b in (omega (arith, e, m), omega (arith, e, m))

-- what is above n bytes is not written
digits_above : (n r q : ℕ) → digits n (r + 256 ^ n * q) ≡ digits n r
unfolding digits
digits_above zero r q = refl
digits_above (suc n) r q =
    let e : 256 ^ suc n * q ≡ 256 * (256 ^ n * q) = pow_times n q in
    let m : (r + 256 ^ suc n * q) % 256 ≡ r % 256 = omega arith in
    let d : (r + 256 ^ suc n * q) / 256 ≡ r / 256 + 256 ^ n * q = omega arith in
    rw (m, d) (ap (λ (l : List ℕ). (r % 256) ∷ l) (digits_above n (r / 256) q))

pub digits_mod : (n v : ℕ) → digits n (v % 256 ^ n) ≡ digits n v
digits_mod n v =
    let e : v ≡ v % 256 ^ n + 256 ^ n * (v / 256 ^ n) = omega (arith, div-add-mod v (256 ^ n)) in
    sym (ap (λ (u : ℕ). digits n u) e ∙ digits_above n (v % 256 ^ n) (v / 256 ^ n))

pub digits_add : (m n v : ℕ) → digits (m + n) v ≡ digits m v ++ digits n (v / 256 ^ m)
unfolding digits
digits_add zero n v = rw (zero-add, div-one)
digits_add (suc m) n v =
    rw (suc-add, pow-succ', ← div-div-eq-div-mul) (ap (λ (l : List ℕ). (v % 256) ∷ l) (digits_add m n (v / 256)))

pub digits_be_mod : (n v : ℕ) → digits_be n (v % 256 ^ n) ≡ digits_be n v
unfolding digits_be
digits_be_mod n v = ap reverse (digits_mod n v)

pub digits_be_add : (m n v : ℕ) → digits_be (m + n) v ≡ digits_be m (v / 256 ^ n) ++ digits_be n v
unfolding digits_be
digits_be_add m n v =
    ap (λ (k : ℕ). reverse (digits k v)) (add_comm m n)
    ∙ ap reverse (digits_add n m v)
    ∙ reverse-append (digits n v) (digits m (v / 256 ^ n))

-- a number written in two parts, one behind the other
put_two : (m n at : ℕ) (xs cs bs ds : List ℕ) → length cs ≡ m → length bs ≡ n → at + (m + n) ≤ length xs → ds ≡ cs ++ bs →
    put (put xs at cs) (at + m) bs ≡ put xs at ds
put_two m n at xs cs bs ds a b h e =
    put_put xs cs bs at (at + m) (omega arith) (omega arith) ∙ ap (λ (l : List ℕ). put xs at l) (sym e)

pub put_digits : (m n : ℕ) (xs : List ℕ) (at v : ℕ) → at + (m + n) ≤ length xs →
    put (put xs at (digits m v)) (at + m) (digits n (v / 256 ^ m)) ≡ put xs at (digits (m + n) v)
put_digits m n xs at v h =
    put_two m n at xs (digits m v) (digits n (v / 256 ^ m)) (digits (m + n) v)
    (length_digits m v) (length_digits n (v / 256 ^ m)) h (digits_add m n v)

pub put_digits_be : (m n : ℕ) (xs : List ℕ) (at v : ℕ) → at + (m + n) ≤ length xs →
    put (put xs at (digits_be m (v / 256 ^ n))) (at + m) (digits_be n v) ≡ put xs at (digits_be (m + n) v)
put_digits_be m n xs at v h =
    put_two m n at xs (digits_be m (v / 256 ^ n)) (digits_be n v) (digits_be (m + n) v)
    (length_digits_be m (v / 256 ^ n)) (length_digits_be n v) h (digits_be_add m n v)
