-- The digits of a number, `x / 2 ^ k % 2`, under shifts and remainders; the zeros at either end of a complement as runs of set digits.
-- Assumes nothing.
use mathlib.Core.Path.{◌≡◌, refl, sym, ap, ap₂, ◌∙◌}
use mathlib.Core.Bool.{Bool, true, false, cond}
use Prim.Native.Nat.{ℕ, zero, suc, ◌+◌, ◌-◌, ◌*◌, ◌/◌, ◌%◌, ◌^◌, ◌≤◌, ◌<◌}
use native.Mathlib.Nat.{pow-suc, div-eq_of_lt, div-one, mod-lt, div-lt_iff_lt-mul, zero-mul, one-mul}
use native.Mathlib.Omega.{arith}
use native.Mathlib.Numerals.{one-add}
use lib.Dec.{eqb}
use lib.Pow.{pow_pos, shr-shr, high, low, field, mod-mod-pow, split}
use lib.Count.{count_trailing_zeros, count_leading_zeros, under, leading_length, leading_unique}
use Rattle.ring.specs.Links.{usable}

-- ---- digits

-- the digits of a number shifted down
pub digit_shr : (x s k : ℕ) → usable (x / 2 ^ s) k ≡ usable x (s + k)
unfolding usable
digit_shr x s k = ap (λ (y : ℕ). eqb (y % 2) 1) (shr-shr x s k)

-- the low digits stay
pub digit_low : (x m k : ℕ) → k < m → usable (x % 2 ^ m) k ≡ usable x k
unfolding usable
digit_low x m k h =
    let d : ℕ = m - k - 1 in
    let e : m ≡ (d + 1) + k = omega arith in
    ap (λ (j : ℕ). eqb (x % 2 ^ j / 2 ^ k % 2) 1) e
    ∙ ap (λ (y : ℕ). eqb (y % 2) 1) (field x (d + 1) k)
    ∙ ap (λ (y : ℕ). eqb y 1) (mod-mod-pow (x / 2 ^ k) d 1)

-- past a number's end every digit is 0
pub digit_none : (x k : ℕ) → x < 2 ^ k → usable x k ≡ false
unfolding usable
digit_none x k h = ap (λ (y : ℕ). eqb (y % 2) 1) (div-eq_of_lt h)

-- of a * 2 ^ s + b, the digits below s are b's, and those above are a's
pub digit_below : (a s b k : ℕ) → b < 2 ^ s → k < s → usable (a * 2 ^ s + b) k ≡ usable b k
digit_below a s b k hb h = sym (digit_low (a * 2 ^ s + b) s k h) ∙ ap (λ (y : ℕ). usable y k) (low a s hb)

pub digit_above : (a s b k : ℕ) → b < 2 ^ s → usable (a * 2 ^ s + b) (s + k) ≡ usable a k
digit_above a s b k hb = sym (digit_shr (a * 2 ^ s + b) s k) ∙ ap (λ (y : ℕ). usable y k) (high a s hb)

-- ---- runs

-- of the m things numbered from 0, how many hold before the first that does not
unfoldable pub run : (ℕ → Bool) → ℕ → ℕ
run p zero = zero
run p (suc m) = cond (p zero) (suc (run (λ k. p (suc k)) m)) zero

-- a run looks at the things below m alone
pub run_ext : (p q : ℕ → Bool) (m : ℕ) → ((k : ℕ) → k < m → p k ≡ q k) → run p m ≡ run q m
unfolding run
run_ext p q zero h = refl
run_ext p q (suc m) h =
    ap₂ (λ (b : Bool) (r : ℕ). cond b (suc r) zero) (h zero (omega arith))
    (run_ext (λ k. p (suc k)) (λ k. q (suc k)) m (λ k l. h (suc k) (omega arith)))

-- a run ends where something does not hold, however far it might look
pub run_cut : (p : ℕ → Bool) (m f : ℕ) → m ≤ f → p m ≡ false → run p f ≡ run p m
unfolding run
run_cut p zero zero l h = refl
run_cut p zero (suc f) l h = ap (λ (b : Bool). cond b (suc (run (λ k. p (suc k)) f)) zero) h
run_cut p (suc m) zero l h = absurd (omega arith)
run_cut p (suc m) (suc f) l h = ap (λ (r : ℕ). cond (p zero) (suc r) zero) (run_cut (λ k. p (suc k)) m f (omega arith) h)

-- ---- the complement

under_cond : (b t : ℕ) → b < 2 → under (1 - b) t ≡ cond (eqb b 1) (suc t) zero
under_cond zero t h = refl
under_cond (suc zero) t h = refl
under_cond (suc (suc b)) t h = absurd (omega arith)

-- trailing zeros of the complement of a number of m digits: the run of set digits from the lowest
pub trailing_run : (m x : ℕ) → x < 2 ^ m → count_trailing_zeros m ((2 ^ m - 1) - x) ≡ run (usable x) m
unfolding count_trailing_zeros run usable
trailing_run zero x h = refl
trailing_run (suc m) x h =
    let p = pow-suc 2 m in
    let odd : ((2 ^ suc m - 1) - x) % 2 ≡ 1 - x % 2 = omega arith in
    let half : ((2 ^ suc m - 1) - x) / 2 ≡ (2 ^ m - 1) - x / 2 = omega arith in
    ap₂ (λ (r y : ℕ). under r (count_trailing_zeros m y)) odd half
    ∙ ap (λ (t : ℕ). under (1 - x % 2) t)
    (trailing_run m (x / 2) (omega arith) ∙ run_ext (usable (x / 2)) (λ k. usable x (suc k)) m (λ k l. digit_shr x 1 k ∙ ap (usable x) (one-add k)))
    ∙ under_cond (x % 2) (run (λ k. usable x (suc k)) m) (omega arith)
    ∙ ap (λ (y : ℕ). cond (eqb (y % 2) 1) (suc (run (λ k. usable x (suc k)) m)) zero) (sym (div-one x))

leading_suc : (m a : ℕ) → a < 2 ^ m → count_leading_zeros (suc m) a ≡ suc (count_leading_zeros m a)
leading_suc m a h =
    let s = leading_length m a h in
    sym (leading_unique (suc m) a (suc (count_leading_zeros m a)) s.0 (let e = s.1 in omega arith) s.2 s.3)

-- leading zeros of the complement: the run of set digits from the highest
pub leading_run : (m x : ℕ) → x < 2 ^ m → count_leading_zeros m ((2 ^ m - 1) - x) ≡ run (λ k. usable x (m - 1 - k)) m
unfolding count_leading_zeros run usable
leading_run zero x h = refl
leading_run (suc m) x h = go (x / 2 ^ m) refl (leading_run m)
  where
    rest : ℕ
    rest = run (λ k. usable x (suc m - 1 - suc k)) m

    go : (t : ℕ) → x / 2 ^ m ≡ t → ((y : ℕ) → y < 2 ^ m → count_leading_zeros m ((2 ^ m - 1) - y) ≡ run (λ k. usable y (m - 1 - k)) m)
        → count_leading_zeros (suc m) ((2 ^ suc m - 1) - x) ≡ cond (usable x (suc m - 1 - zero)) (suc rest) zero
    go zero e ih =
        let p = pow-suc 2 m in
        let q = split x m in
        let r = mod-lt x (pow_pos m) in
        let small : x / 2 ^ m * 2 ^ m ≡ zero = ap (λ (t : ℕ). t * 2 ^ m) e ∙ zero-mul (2 ^ m) in
        sym (leading_unique (suc m) ((2 ^ suc m - 1) - x) zero (suc m) (omega arith) (omega arith) (omega arith))
        ∙ sym (ap (λ (b : Bool). cond b (suc rest) zero) (ap (usable x) (let i : suc m - 1 - zero ≡ m = omega arith in i) ∙ digit_none x m (omega arith)))
    go (suc zero) e ih =
        let p = pow-suc 2 m in
        let q = split x m in
        let r = mod-lt x (pow_pos m) in
        let one : x / 2 ^ m * 2 ^ m ≡ 2 ^ m = ap (λ (t : ℕ). t * 2 ^ m) e ∙ one-mul (2 ^ m) in
        let y : ℕ = x % 2 ^ m in
        let same : (2 ^ suc m - 1) - x ≡ (2 ^ m - 1) - x % 2 ^ m = omega arith in
        let top : usable x (suc m - 1 - zero) ≡ true =
        ap (usable x) (let i : suc m - 1 - zero ≡ m = omega arith in i) ∙ ap (λ (t : ℕ). eqb (t % 2) 1) e in
        ap (count_leading_zeros (suc m)) same
        ∙ leading_suc m ((2 ^ m - 1) - x % 2 ^ m) (omega arith)
        ∙ ap suc (ih (x % 2 ^ m) r
        ∙ run_ext (λ k. usable (x % 2 ^ m) (m - 1 - k)) (λ k. usable x (suc m - 1 - suc k)) m
        (λ k l. digit_low x m (m - 1 - k) (omega arith) ∙ ap (usable x) (let i : m - 1 - k ≡ suc m - 1 - suc k = omega arith in i)))
        ∙ sym (ap (λ (b : Bool). cond b (suc rest) zero) top)
    go (suc (suc t)) e ih =
        let p = pow-suc 2 m in
        let two : x / 2 ^ m < 2 = (div-lt_iff_lt-mul (pow_pos m)).1 (omega arith) in
        absurd (omega arith)
