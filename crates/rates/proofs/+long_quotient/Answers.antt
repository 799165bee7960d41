-- `rates::long_quotient` meets its contract.
-- Assumes nothing.
use mathlib.Core.Path.{◌≡◌, sym, ap, ◌∙◌}
use Prim.Native.Nat.{ℕ, ◌+◌, ◌-◌, ◌*◌, ◌/◌, ◌%◌, ◌≤◌, ◌<◌}
use native.Mathlib.Nat.{mul_assoc, mod-lt, div-add-mod', div-eq_of_lt-le}
use native.Mathlib.Omega.{arith}
use Rattle.rates.proofs.+long_quotient.Goals as goal

-- With q the quotient of half of x, y goes into x 2 × q times, and less than 2 × y is left.
twice_within : (x y q : ℕ) → 0 < y → q ≡ x / 2 / y → (2 * q * y ≤ x) × (x - 2 * q * y < 2 * y)
twice_within x y q pos e =
    let half : q * y + x / 2 % y ≡ x / 2 = ap (λ (n : ℕ). n * y + x / 2 % y) e ∙ div-add-mod' (x / 2) y in
    let below = mod-lt (x / 2) pos in
    (omega (arith, half, mul_assoc 2 q y), omega (arith, half, below, mul_assoc 2 q y))

pub returns-then-x-twice : goal.returns-then-x-twice
returns-then-x-twice t c =
    let a = c.args in
    let within = twice_within a.x a.y c.long_quotient-twice.result (omega arith) c.long_quotient-twice.ensures in
    sym (div-eq_of_lt-le a.y within.0 (omega arith))

-- the quotient is one more
pub returns-else-x-twice : goal.returns-else-x-twice
returns-else-x-twice t c =
    let a = c.args in
    let within = twice_within a.x a.y c.long_quotient-twice.result (omega arith) c.long_quotient-twice.ensures in
    sym (div-eq_of_lt-le a.y (omega (arith, within.0)) (omega (arith, within.1)))
