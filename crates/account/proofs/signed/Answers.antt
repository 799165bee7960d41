-- Bits below 2^31 are the number, and from there on the code counts down from -1.
-- Assumes nothing.
use Rattle.std.proofs.Common.{◌≡◌, ℕ, suc, ◌-◌, ℤ, sym, ap, ◌∙◌, subst, arith, w32, SFits, to_z, of_z}
use Rattle.wire.proofs.Signs.{downward}
use Rattle.account.proofs.signed.Goals as goal

pub overflow_sub-result-else-x-lt-LEAST : goal.overflow_sub-result-else-x-lt-LEAST
overflow_sub-result-else-x-lt-LEAST c = subst (λ (z : ℤ). SFits w32 z) (sym (downward w32 (4294967295 - c.args.x) (omega arith))) (record { sfits = omega arith })

pub returns-else-x-lt-LEAST : goal.returns-else-x-lt-LEAST
returns-else-x-lt-LEAST c =
    let x : ℕ = c.args.x in
    let back : 4294967296 - suc (4294967295 - x) ≡ x = omega (arith, c.ranges.x.fits) in
    ap (λ (z : ℤ). to_z w32 (of_z w32 z)) (downward w32 (4294967295 - x) (omega arith)) ∙ ap (λ (n : ℕ). to_z w32 n) back
