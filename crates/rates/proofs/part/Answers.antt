-- `rates::part` meets its contract: a power of two is divided by with a shift, and only other numbers go the long way.
-- Assumes nothing.
use mathlib.Core.Path.{◌≡◌, sym, ap, ◌∙◌}
use Prim.Native.Nat.{ℕ, ◌*◌, ◌/◌, ◌%◌, ◌^◌}
use native.Mathlib.Nat.{one-mul}
use native.Mathlib.Omega.{arith}
use lib.Count.{count_trailing_zeros, trailing_le}
use lib.Pow.{shl_exact}
use Rattle.rates.specs.Rates.{part_of}
use Rattle.rates.proofs.Shift.{shifts_exactly}
use Rattle.rates.proofs.part.Goals as goal

-- nothing is shifted out, so the test is of the power itself
tested : (coef : ℕ) → 1 * 2 ^ count_trailing_zeros 32 coef % 2 ^ 64 ≡ 2 ^ count_trailing_zeros 32 coef
tested coef = shl_exact 1 (count_trailing_zeros 32 coef) 64 (omega arith) (omega (arith, trailing_le 32 coef)) ∙ one-mul _

pub overflow_cast-places : goal.overflow_cast-places
overflow_cast-places c = omega (arith, trailing_le 32 c.args.coef)

pub overflow_shl-places : goal.overflow_shl-places
overflow_shl-places c = omega (arith, trailing_le 32 c.args.coef)

pub overflow_shr-result : goal.overflow_shr-result
overflow_shr-result c = omega (arith, trailing_le 32 c.args.coef)

pub long_quotient-requires : goal.long_quotient-requires
long_quotient-requires c =
    let coef : ℕ = c.args.coef in
    λ k e. c.if-places-coef.false (tested coef ∙ (shifts_exactly coef (omega arith)).1 (k, e))

pub returns-then-places-coef : goal.returns-then-places-coef
unfolding part_of
returns-then-places-coef c =
    let a = c.args in
    ap (λ (n : ℕ). a.x / n) (sym (tested a.coef) ∙ c.if-places-coef.true)

pub returns-else-places-coef : goal.returns-else-places-coef
unfolding part_of
returns-else-places-coef c = c.long_quotient.ensures
