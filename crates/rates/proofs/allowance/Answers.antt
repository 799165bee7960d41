-- `rates::allowance` meets its contract. The factor is cut to a word: where that makes it smaller, the product is either 0 all the same, or at
-- least the largest word, and so at least unreservedRate. Assumes nothing.
use Rattle.rates.specs.Rates.{allowance_of}
use Rattle.decide.proofs.Cases.{by_cases, le_or}
use mathlib.Core.Path.{◌≡◌, sym, ap, ◌∙◌}
use Prim.Native.Nat.{ℕ, zero, suc, ◌*◌, ◌≤◌, min}
use native.Mathlib.Nat.{mul_assoc, mul-le-mul_right}
use native.Mathlib.Omega.{arith}
use Rattle.rates.proofs.allowance.Goals as goal

-- a factor above the largest word counts as that
cut : (u r k : ℕ) → u ≤ 4294967295 → min u (r * min k 4294967295) ≡ min u (r * k)
cut u zero k h = omega arith
cut u (suc n) k h =
    by_cases (le_or k 4294967295)
    (λ l. let e : min k 4294967295 ≡ k = omega arith in ap (λ (m : ℕ). min u (suc n * m)) e)
    (λ g.
    let e : min k 4294967295 ≡ 4294967295 = omega arith in
    ap (λ (m : ℕ). min u (suc n * m)) e ∙ omega (arith, mul-le-mul_right {m = 1} {n = suc n} k (omega arith)))

pub returns : goal.returns
unfolding allowance_of
returns c =
    let a : _ = c.args in
    let u : ℕ = a.unreserved in
    c.lesser.ensures
    ∙ ap (λ (k : ℕ). min u (a.received * k)) c.lesser-factor.ensures
    ∙ cut u a.received (a.weight * a.unit) (omega arith)
    ∙ ap (λ (p : ℕ). min u p) (sym (mul_assoc a.received a.weight a.unit))
