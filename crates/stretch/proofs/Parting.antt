-- Two blocks are halved together until the next halving would make them one: that gives the block at which they part.
-- Assumes nothing.
use Prim.Native.Nat.{ℕ, zero, suc, ◌+◌, ◌*◌, ◌/◌, ◌≤◌, ◌<◌}
use mathlib.Core.Path.{◌≡◌, sym, ap, ◌∙◌}
use native.Mathlib.Nat.{le_of_eq, div-one, div-div-eq-div-mul, mul-le-mul_left, mul-div-le, lt-mul-div-succ}
use native.Mathlib.Omega.{arith}
use Rattle.decide.proofs.Cases.{by_cases, le_or}
use Rattle.index.specs.Tree.{top_level, size_of}
use Rattle.index.proofs.Sizes.{size_some, size_next, size_block, size_top}
use Rattle.stretch.specs.Parting.{Parted}

-- x and y halved `level` times are a and b, and still apart; h is 2 to that power
pub record Halving (x y a b h : ℕ) : Type 0 where
  pub level : ℕ
  pub size : h ≡ size_of level
  pub lower : x / h ≡ a
  pub upper : y / h ≡ b
  pub apart : a < b

pub halving_start : {x y : ℕ} → x < y → Halving x y x y 1
halving_start {x} {y} l = record { level = 0; size = sym size_block; lower = div-one x; upper = div-one y; apart = l }

module _ {x y a b h : ℕ} (w : Halving x y a b h) where
  pub halving_step : (a / 2 ≡ b / 2 → ⊥) → Halving x y (a / 2) (b / 2) (h * 2)
  halving_step ne = record {
    level = suc w.level;
    size = omega (arith, size_next w.level);
    lower = sym (div-div-eq-div-mul x h 2) ∙ ap (λ z. z / 2) w.lower;
    upper = sym (div-div-eq-div-mul y h 2) ∙ ap (λ z. z / 2) w.upper;
    apart = omega arith;
  }

  -- the upper one falls
  pub halving_falls : b / 2 < b
  halving_falls = omega arith

  some : 0 < h
  some = omega (arith, size_some w.level)

  -- z lies from block h * c on, in h blocks
  from : (z c : ℕ) → z / h ≡ c → (h * c ≤ z) × (z < h * c + h)
  from z c e = rw (← e) (mul-div-le z h, omega (arith, lt-mul-div-succ z some))

  -- What the loop computes is at most y.
  pub halving_block : b * h ≤ y
  halving_block = omega (arith, (from y b w.upper).0)

  pub halving_size : h ≤ y
  halving_size = omega (arith, mul-le-mul_left {m = 1} {n = b} h (omega arith), (from y b w.upper).0)

  pub halving_double : h * 2 ≤ 2 * y
  halving_double = omega (arith, halving_size)

  -- The next halving makes them one: a is even, and b the next.
  pub halving_end : a / 2 ≡ b / 2 → Parted x y (b * h) h
  halving_end e =
      let p : h * a ≡ h * (2 * (a / 2)) = ap (λ z. h * z) (omega arith) in
      let r : h * b ≡ h * (2 * (a / 2) + 1) = ap (λ z. h * z) (omega arith) in
      let d : size_of (suc w.level) * (a / 2) ≡ (h + h) * (a / 2) = ap (λ z. z * (a / 2)) (omega (arith, size_next w.level)) in
      let f = from x a w.lower in
      let g = from y b w.upper in
      record {
        level = w.level;
        nth = a / 2;
        half = w.size;
        meets = omega arith;
        begins = omega arith;
        before = omega arith;
        behind = omega arith;
        ends = omega arith;
      }

-- ---- where they part

-- the half that x lies in begins at block m - h
pub parted_half : {x y m h : ℕ} → Parted x y m h → h ≤ m
parted_half w = omega arith

-- a higher level has no fewer blocks
pub size_mono : (k j : ℕ) → k ≤ j → size_of k ≤ size_of j
size_mono k zero l = le_of_eq (ap size_of (omega arith))
size_mono k (suc j) l = by_cases (le_or k j) (λ f. omega (arith, size_mono k j f, size_next j)) (λ f. le_of_eq (ap size_of (omega arith)))

pub parted_level : {x y m h : ℕ} (w : Parted x y m h) → y < 4096 →
    (suc w.level ≤ top_level) × (size_of (suc w.level) * w.nth < size_of top_level)
parted_level w l =
    by_cases (le_or (suc w.level) top_level)
    (λ f. (f, omega (arith, size_top)))
    (λ f. absurd (omega (arith, size_top, size_mono top_level w.level (omega arith))))
