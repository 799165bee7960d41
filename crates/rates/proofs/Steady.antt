-- A steady rate: the stored number stands exactly where the rate shown is that rate, else the rate shown goes towards it, never past it, and comes to it.
-- Assumes nothing.
use Prim.Native.Nat.{ℕ, zero, suc, ◌+◌, ◌-◌, ◌*◌, ◌^◌, ◌≤◌, ◌<◌, max}
use mathlib.Core.Logic.{inl, inr, ◌↔◌}
use mathlib.Core.Path.{◌≡◌, refl, sym, ap, subst, ◌∙◌}
use native.Mathlib.Nat.{le-mul_of_pos_right, mul-le-mul_right, div-zero, le-div_iff_mul-le, div-lt_iff_lt-mul, pow-suc, zero-add, suc-add}
use lib.Pow.{pow_pos}
use native.Mathlib.Omega.{arith}
use Rattle.decide.specs.Test.{test, split, ◌<?◌, ◌≡?◌, ◌∨?◌}
use Rattle.decide.proofs.Cases.{by_cases, le_or}
use Rattle.decide.proofs.Tests.{same_test}
use Rattle.rates.specs.Rates.{part_of, smoothed_of, shown_of, shown_ok_of}
use Rattle.rates.specs.Steady.{steady_of, gap_of}
use Rattle.rates.proofs.Bounds.{part_below, part_next, part_le}

-- ---- one interval

module _ (c rate s : ℕ) where
  -- With a steady rate, s stands still exactly if the rate shown equals it.
  pub steady_stands : (smoothed_of c s rate ≡ s) ↔ (shown_of c s ≡ rate)
  unfolding smoothed_of shown_of
  steady_stands = (λ e. omega (arith, part_le s c), λ e. omega (arith, part_le s c))

  -- Where a lower rate is shown it rises, by what is missing,
  pub steady_rises : shown_of c s < rate → smoothed_of c s rate ≡ s + (rate - shown_of c s)
  unfolding smoothed_of shown_of
  steady_rises h = omega (arith, part_le s c)

  -- and where a higher one is shown it falls, by what is too much.
  pub steady_falls : rate < shown_of c s → s ≡ smoothed_of c s rate + (shown_of c s - rate)
  unfolding smoothed_of shown_of
  steady_falls h = omega (arith, part_le s c)

-- so many intervals, and then so many
pub steady_add : (c rate m n s : ℕ) → steady_of c rate (m + n) s ≡ steady_of c rate n (steady_of c rate m s)
unfolding steady_of
steady_add c rate zero n s = rw (zero-add n) refl
steady_add c rate (suc m) n s = rw suc-add (steady_add c rate m n (smoothed_of c s rate))

-- ---- the rate shown is known by two products

-- by 0 it is 0
shown_none : (c s : ℕ) → c ≡ 0 → shown_of c s ≡ 0
unfolding shown_of part_of
shown_none c s e = rw e (div-zero s)

module _ (c : ℕ) (p : 0 < c) where
  -- at least n is shown exactly if s is at least n × lpCoef
  pub shown_least : (n s : ℕ) → (n ≤ shown_of c s) ↔ (n * c ≤ s)
  unfolding shown_of part_of
  shown_least n s = le-div_iff_mul-le p

  -- and less than n exactly if s is below
  pub shown_below : (n s : ℕ) → (shown_of c s < n) ↔ (s < n * c)
  unfolding shown_of part_of
  shown_below n s = div-lt_iff_lt-mul p

  -- a rate shown, by its two products
  between : (s : ℕ) → (shown_of c s * c ≤ s) × (s < (shown_of c s + 1) * c)
  unfolding shown_of
  between s = (omega (arith, part_below s c), part_next s c p)

  -- two rates times lpCoef: the larger is the smaller, one lpCoef and the rest, which is at least the rest of the rates
  products : (a b : ℕ) → a < b → (b * c ≡ a * c + c + (b - a - 1) * c) × (b - a - 1 ≤ (b - a - 1) * c)
  products a b h =
      let e : b ≡ a + 1 + (b - a - 1) = omega arith in
      let f : (a + 1 + (b - a - 1)) * c ≡ a * c + c + (b - a - 1) * c = omega arith in
      (ap (λ (n : ℕ). n * c) e ∙ f, le-mul_of_pos_right (b - a - 1) p)

  module _ (rate : ℕ) where
    -- below, at or above the rate
    sides : {P : Type 0} (s : ℕ) → (shown_of c s < rate → P) → (shown_of c s ≡ rate → P) → (rate < shown_of c s → P) → P
    sides s low same high =
        by_cases (split (shown_of c s <? rate)) low (λ n. by_cases (split (rate <? shown_of c s)) high (λ m. same (omega arith)))

    -- a rising s comes to rate × lpCoef at most, and a falling one to the last number that shows the rate
    rises_to : (s : ℕ) → shown_of c s < rate → smoothed_of c s rate ≤ rate * c
    rises_to s h = omega (arith, steady_rises c rate s h, between s, products (shown_of c s) rate h)

    falls_to : (s : ℕ) → rate < shown_of c s → rate * c + c ≤ smoothed_of c s rate + 1
    falls_to s h = omega (arith, steady_falls c rate s h, between s, products rate (shown_of c s) h)

    -- The rate shown does not pass the steady rate: from below it does not fall and comes to it at most, and from above the other way about.
    pub steady_not_past : (s : ℕ) →
        (shown_of c s ≤ rate → (shown_of c s ≤ shown_of c (smoothed_of c s rate)) × (shown_of c (smoothed_of c s rate) ≤ rate))
        × (rate ≤ shown_of c s → (rate ≤ shown_of c (smoothed_of c s rate)) × (shown_of c (smoothed_of c s rate) ≤ shown_of c s))
    steady_not_past s =
        let q = shown_of c s in
        let t = smoothed_of c s rate in
        let top : (rate + 1) * c ≡ rate * c + c = omega arith in
        sides s
        (λ l. (λ h. ((shown_least q t).1 (omega (arith, steady_rises c rate s l, between s)), omega (arith, (shown_below (rate + 1) t).1 (omega (arith, rises_to s l)))), λ h. omega arith))
        (λ e. let still = (steady_stands c rate s).1 e in (λ h. rw still (omega arith), λ h. rw still (omega arith)))
        (λ l. (λ h. omega arith, λ h. ((shown_least rate t).1 (omega (arith, falls_to s l)), omega (arith, (shown_below (q + 1) t).1 (omega (arith, steady_falls c rate s l, between s))))))

    -- ---- coming to it

    -- s is at most n away from the numbers that show the rate
    abbrev Near : ℕ → ℕ → Type 0
    Near n s = (rate * c ≤ s + n) × (s < rate * c + c + n)

    -- so it is where the rate shown is at most h off,
    off_near : (h s : ℕ) → gap_of (shown_of c s) rate ≤ h → Near (h * c) s
    off_near h s g =
        sides s
        (λ l. omega (arith, between s, products (shown_of c s) rate l, mul-le-mul_right {m = suc (rate - shown_of c s - 1)} {n = h} c (omega arith)))
        (λ e. omega (arith, between s, ap (λ (n : ℕ). n * c) e))
        (λ l. omega (arith, between s, products rate (shown_of c s) l, mul-le-mul_right {m = suc (shown_of c s - rate - 1)} {n = h} c (omega arith)))

    -- where it is none away the rate is shown,
    near_shown : (s : ℕ) → Near 0 s → shown_of c s ≡ rate
    near_shown s n =
        let top : (rate + 1) * c ≡ rate * c + c = omega arith in
        omega (arith, (shown_least rate s).1 (omega arith), (shown_below (rate + 1) s).1 (omega arith))

    -- and an interval brings it nearer by what the rate shown is off.
    nearer : (h n s : ℕ) → h ≤ gap_of (shown_of c s) rate → Near (n + h) s → Near n (smoothed_of c s rate)
    nearer h n s g near =
        sides s
        (λ l. omega (arith, steady_rises c rate s l, rises_to s l))
        (λ e. omega (arith, (steady_stands c rate s).1 e))
        (λ l. omega (arith, steady_falls c rate s l, falls_to s l))

    -- While the rate shown is more than h off, each interval brings s nearer by more than h.
    through : (n h x s : ℕ) → h * c ≤ x → Near (x + n * suc h) s → Near x (steady_of c rate n s)
    unfolding steady_of
    through zero h x s b near = omega arith
    through (suc n) h x s b near =
        through n h x (smoothed_of c s rate) b
        (by_cases (le_or (gap_of (shown_of c s) rate) h)
        (λ g. nearer 0 (x + n * suc h) s (omega arith) (omega (arith, off_near h s g)))
        (λ g. nearer (suc h) (x + n * suc h) s g (omega arith)))

    -- lpCoef intervals more than halve what it is off
    halved : (h s : ℕ) → Near ((h + suc h) * c) s → Near (h * c) (steady_of c rate c s)
    halved h s near = through c h (h * c) s (omega arith) (omega arith)

    -- so as many times lpCoef intervals as the distance has binary digits bring it there
    arrived : (k n s : ℕ) → k * c ≤ n → Near ((2 ^ k - 1) * c) s → Near 0 (steady_of c rate n s)
    arrived zero n s many near = through n 0 0 s (omega arith) (omega arith)
    arrived (suc k) n s many near =
        let two = pow-suc 2 k in
        let some = pow_pos k in
        let e : n ≡ c + (n - c) = omega arith in
        let d : 2 ^ suc k - 1 ≡ (2 ^ k - 1) + suc (2 ^ k - 1) = omega arith in
        let half = halved (2 ^ k - 1) s (subst (λ (h : ℕ). Near (h * c) s) d near) in
        subst (Near 0) (sym (ap (λ (m : ℕ). steady_of c rate m s) e ∙ steady_add c rate c (n - c) s)) (arrived k (n - c) (steady_of c rate c s) (omega arith) half)

    -- From any s a steady rate is shown after some number of intervals: k × lpCoef of them, or more, where the rate shown is less than 2 ^ k off.
    pub steady_arrives : (k n s : ℕ) → gap_of (shown_of c s) rate < 2 ^ k → k * c ≤ n → shown_of c (steady_of c rate n s) ≡ rate
    steady_arrives k n s off many = near_shown (steady_of c rate n s) (arrived k n s many (off_near (2 ^ k - 1) s (omega arith)))

    -- So 31 × lpCoef intervals do from any s in range, at any rate in range.
    pub steady_arrives_always : (n s : ℕ) → shown_of c s ≤ 2147483647 → rate ≤ 2147483647 → 31 * c ≤ n → shown_of c (steady_of c rate n s) ≡ rate
    steady_arrives_always n s most rate_most many = steady_arrives 31 n s (omega arith) many

-- ---- its range

-- That at most 2,147,483,647 is shown is told by one product, without a divide.
pub shown_range : (c s : ℕ) → 0 < c → (shown_of c s ≤ 2147483647) ↔ (s < c * 2147483648)
shown_range c s p = (λ h. omega (arith, (shown_below c p 2147483648 s).0 (omega arith)), λ h. omega (arith, (shown_below c p 2147483648 s).1 (omega arith)))

-- so the test of code is that of the paper, by 0 too
pub range_told : (c s : ℕ) → test (s <? c * 2147483648 ∨? c ≡? 0) ≡ test (shown_ok_of c s)
range_told c s =
    same_test (s <? c * 2147483648 ∨? c ≡? 0) (shown_ok_of c s)
    (λ h. by_cases h (λ l. (shown_range c s (omega arith)).1 l) (λ e. omega (arith, shown_none c s e)))
    (λ h. by_cases (split (c ≡? 0)) (λ e. inr e) (λ n. inl ((shown_range c s (omega arith)).0 h)))

-- The rate shown is at most the larger of the rate shown before and of the rate.
pub shown_within : (c s rate : ℕ) → shown_of c (smoothed_of c s rate) ≤ max (shown_of c s) rate
shown_within zero s rate = omega (arith, shown_none 0 (smoothed_of 0 s rate) refl)
shown_within (suc c) s rate =
    let between = steady_not_past (suc c) (omega arith) rate s in
    by_cases (le_or (shown_of (suc c) s) rate)
    (λ h. omega (arith, between.0 h))
    (λ h. omega (arith, between.1 (omega arith)))
